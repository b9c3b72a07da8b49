-- A context depends on the answers of its sites alone.
use Rattle.std.proofs.Common.{◌≡◌, ℕ, suc, ◌+◌, ◌<◌, ◌≤◌, Bool, true, false, cond, List, [], ◌∷◌, ◌++◌, length, Option, Some, None, refl, sym, ap, ap₂, ◌∙◌, arith}
use Rattle.std.proofs.lemmas.List.{length-append}
use Rattle.cv_syntax_trees.specs.declared.head.Head.TheVariants.{Call as CallHead}
use Rattle.cv_syntax_trees.specs.Tree.{Tree, Empty, Node, first_place, second_place}
use Rattle.cv_scope_rules.specs.Context.{cell_of, first_position, replications_below, second_position}
use Rattle.cv_scope_rules.specs.declared.position.Position.{Position}
use Rattle.cv_scope_rules.specs.declared.position.Position.TheVariants.{Anywhere}
use Rattle.cv_scene.specs.Scenes.{Scene}
use Rattle.cv_scene.specs.Instances.{Call, Matching, call_at}
use Rattle.cv_scene.specs.Sites.{Site, is_guard, sites_in, sites_of}
use Rattle.cv_scene.specs.Contexts.{after_calls, call_terms, context_in, context_of, in_context, is_coin_variable, is_statement, matching_of}
use Rattle.cv_context_laws.proofs.calls.Games.{inside_length}

module _ (M : Matching) (coins : ℕ → Bool) (f g : ℕ → ℕ) where
  -- the same answers for this many numbers from one on
  abbrev AreAlike : ℕ → ℕ → Type 0
  AreAlike j n = (k : ℕ) → k < n → f (j + k) ≡ g (j + k)

  fewer : (j m n : ℕ) → m ≤ n → AreAlike j n → AreAlike j m
  fewer j m n h s k i = s k (let z : k < n = omega arith in z)

  later : (j n m i : ℕ) → n + m ≤ i → AreAlike j i → AreAlike (j + n) m
  later j n m i h s k l =
      let z : (j + n) + k ≡ j + (n + k) = omega arith in
      ap f z ∙ s (n + k) (let w : n + k < i = omega arith in w) ∙ sym (ap g z)

  here : (j n : ℕ) → AreAlike j (suc n) → f j ≡ g j
  here j n s = let z : j + 0 ≡ j = omega arith in sym (ap f z) ∙ s 0 (omega arith) ∙ ap g z

  next : (j n : ℕ) → AreAlike j (suc n) → AreAlike (suc j) n
  next j n s k l =
      let z : suc j + k ≡ j + suc k = omega arith in
      ap f z ∙ s (suc k) (omega arith) ∙ sym (ap g z)

  behind : (cs : List Site) (j : ℕ) (t u : Tree) → AreAlike j (length cs) → t ≡ u → after_calls f j cs t ≡ after_calls g j cs u
  behind [] j t u s e = e
  behind (c ∷ cs) j t u s e = ap₂ (λ x v. Node (CallHead x j) (call_terms c.call.instance) v) (here j (length cs) s) (behind cs (suc j) t u (next j (length cs) s) e)

  at_most : (b : Bool) (xs : List Site) → length (cond b xs []) ≤ length xs
  at_most true xs = omega arith
  at_most false xs = omega arith

  alike : (t : Tree) (w : Position) (rs : List (ℕ × ℕ)) (j p : ℕ) → AreAlike j (length (sites_in M w rs p t)) → context_in M coins f w rs j t ≡ context_in M coins g w rs j t
  unfolding context_in sites_in
  alike Empty w rs j p s = refl
  alike (Node h a b) w rs j p s = go (call_at M (Node h a b)) s (λ k. alike a (first_position w h) rs j (first_place p h) k) (λ n k. alike b (second_position w h) (replications_below h rs) (j + n) (second_place p h a) k)
    where
      XA : List Site
      XA = sites_in M (first_position w h) rs (first_place p h) a

      XB : List Site
      XB = sites_in M (second_position w h) (replications_below h rs) (second_place p h a) b

      inside : List Site
      inside = cond (is_guard w) [] (sites_in M (first_position w h) rs 0 a)

      A : (ℕ → ℕ) → Tree
      A k = context_in M coins k (first_position w h) rs j a

      B : (ℕ → ℕ) → ℕ → Tree
      B k n = context_in M coins k (second_position w h) (replications_below h rs) (j + n) b

      guarded : (z : Bool) → AreAlike j (length (cond z [] XA)) → (AreAlike j (length XA) → A f ≡ A g) → cond z a (A f) ≡ cond z a (A g)
      guarded true s e = refl
      guarded false s e = e s

      go : (o : Option Call) → AreAlike j (length (elim o as (λ _. List Site) [ Some c ↦ record { place = p; term = Node h a b; replications = rs; call = c } ∷ [] | None ↦ cond (is_guard w) [] XA ++ XB ])) → (AreAlike j (length XA) → A f ≡ A g) → ((n : ℕ) → AreAlike (j + n) (length XB) → B f n ≡ B g n)
          → (elim o as (λ _. Tree) [
            | Some c ↦ cell_of rs (f j)
            | None ↦ after_calls f j (cond (is_statement h) inside []) (in_context M coins h (cond (is_guard w) a (A f)) (B f (length inside)))
          ])
          ≡ (elim o as (λ _. Tree) [
            | Some c ↦ cell_of rs (g j)
            | None ↦ after_calls g j (cond (is_statement h) inside []) (in_context M coins h (cond (is_guard w) a (A g)) (B g (length inside)))
          ])
      go (Some c) s e k = ap (cell_of rs) (here j 0 s)
      go None s e k =
          let n : ℕ = length (cond (is_guard w) [] XA ++ XB) in
          let all : n ≡ length (cond (is_guard w) [] XA) + length XB = length-append (cond (is_guard w) [] XA) XB in
          let same : length inside ≡ length (cond (is_guard w) [] XA) = inside_length M w rs h a (first_place p h) (is_guard w) in
          let few = at_most (is_statement h) inside in
          behind (cond (is_statement h) inside []) j _ _ (fewer j (length (cond (is_statement h) inside [])) n (omega (arith, all, same, few)) s)
          (ap₂ (in_context M coins h) (guarded (is_guard w) (fewer j (length (cond (is_guard w) [] XA)) n (omega (arith, all)) s) e) (k (length inside) (later j (length inside) (length XB) n (omega (arith, all, same)) s)))

pub alike_contexts : (s : Scene) (e : Tree) (x : ℕ) (f g : ℕ → ℕ) → ((k : ℕ) → k < length (sites_of (matching_of s e x)) → f k ≡ g k) → context_of s e x f ≡ context_of s e x g
alike_contexts s e x f g h =
    ap (λ t. record (context_of s e x f) { game = t })
    (alike (matching_of s e x) (is_coin_variable (sites_of (matching_of s e x))) f g s.game Anywhere [] 0 0 (λ k l. let z : 0 + k ≡ k = omega arith in ap f z ∙ h k l ∙ sym (ap g z)))
