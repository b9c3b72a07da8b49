-- A variable that is used as often as a coin of its site is used there alone.
use Rattle.std.proofs.Common.{◌≡◌, ℕ, zero, suc, ◌+◌, ◌<◌, ◌≤◌, Bool, true, false, cond, ◌==◌, List, [], ◌∷◌, ◌++◌, ◌⊎◌, inl, inr, Option, Some, None, refl, sym, ap, subst, ◌∙◌, eqb-true, arith}
use Rattle.std.proofs.lemmas.Bool.{both_ways, and_parts}
use Rattle.std.specs.Prelude.{slice_get}
use Rattle.cv_syntax_trees.specs.declared.head.Head.TheVariants.{Leaf, Read, Apply, Eq, And, Or, Not, Yes, No, Cons}
use Rattle.cv_syntax_trees.specs.Tree.{Tree, Empty, Node, first_place, second_place}
use Rattle.cv_scope_rules.specs.Context.{first_position, replications_below, second_position}
use Rattle.cv_scope_rules.specs.Phrases.{Nil, Term, Terms, is_phrase}
use Rattle.cv_scope_rules.specs.declared.position.Position.{Position}
use Rattle.cv_scene.specs.Scenes.{head_reads}
use Rattle.cv_scene.specs.lines.Given.{or_node, term_for, with_given}
use Rattle.cv_scene.specs.Instances.{Call, Matching, call_at}
use Rattle.cv_scene.specs.Refusals.{uses}
use Rattle.cv_scene.specs.Sites.{Site, is_guard, sites_in}
use Rattle.cv_scene.specs.LeftTerms.{reads_no_array}
use Rattle.cv_match_laws.specs.instances.Uses.{IsUsedAt, uses_in, uses_outside}

uses_in_both : (x : ℕ) (xs ys : List Site) → uses_in x (xs ++ ys) ≡ uses_in x xs + uses_in x ys
uses_in_both x [] ys = omega arith
uses_in_both x (s ∷ xs) ys = let ih = uses_in_both x xs ys in omega arith

pub uses_apart : (M : Matching) (w : Position) (rs : List (ℕ × ℕ)) (p x : ℕ) (t : Tree) → uses x t ≡ uses_outside M w x t + uses_in x (sites_in M w rs p t)
unfolding uses uses_outside sites_in
uses_apart M w rs p x Empty = refl
uses_apart M w rs p x (Node h a b) =
    go (call_at M (Node h a b)) (is_guard w) (uses_apart M (first_position w h) rs (first_place p h) x a) (uses_apart M (second_position w h) (replications_below h rs) (second_place p h a) x b)
  where
    SA : List Site
    SA = sites_in M (first_position w h) rs (first_place p h) a

    SB : List Site
    SB = sites_in M (second_position w h) (replications_below h rs) (second_place p h a) b

    go : (o : Option Call) (z : Bool) → uses x a ≡ uses_outside M (first_position w h) x a + uses_in x (sites_in M (first_position w h) rs (first_place p h) a)
        → uses x b ≡ uses_outside M (second_position w h) x b + uses_in x (sites_in M (second_position w h) (replications_below h rs) (second_place p h a) b)
        → cond (head_reads x h) 1 0 + (uses x a + uses x b)
        ≡ (elim o as (λ _. ℕ) [ Some c ↦ 0 | None ↦ cond (head_reads x h) 1 0 + (cond z (uses x a) (uses_outside M (first_position w h) x a) + uses_outside M (second_position w h) x b) ])
        + uses_in x (elim o as (λ _. List Site) [
          | Some c ↦ record { place = p; term = Node h a b; replications = rs; call = c } ∷ []
          | None ↦ cond z [] (sites_in M (first_position w h) rs (first_place p h) a) ++ sites_in M (second_position w h) (replications_below h rs) (second_place p h a) b
        ])
    go (Some c) z e f = omega arith
    go None true e f = omega arith
    go None false e f = let both = uses_in_both x (sites_in M (first_position w h) rs (first_place p h) a) (sites_in M (second_position w h) (replications_below h rs) (second_place p h a) b) in omega arith

-- an instance uses the variable at least as often as its body the coin

no_uses : (x : ℕ) (a : Tree) → is_phrase Nil a ≡ true → uses x a ≡ 0
unfolding is_phrase uses
no_uses x Empty e = refl
no_uses x (Node h a b) e = absurd (both_ways false refl e)

module _ (xs : List ℕ) (ts : Tree) (z y : ℕ) (given : Tree) (found : term_for xs ts z ≡ Some given) (used : 0 < uses y given) where
  leaf_uses : (x : ℕ) (a b : Tree) (u : ℕ) → u ≡ 0 → (c : Bool) → (x == z) ≡ c → cond c 1 0 + u ≤ uses y (or_node (term_for xs ts x) (Leaf x) a b)
  leaf_uses x a b u e true i = subst (λ o. 1 + u ≤ uses y (or_node o (Leaf x) a b)) (sym (ap (term_for xs ts) (eqb-true x z i) ∙ found)) (omega arith)
  leaf_uses x a b u e false i = omega arith

  mutual
    unfolding uses with_given is_phrase reads_no_array

    pub filled_uses : (b : Tree) → is_phrase Term b ≡ true → reads_no_array b ≡ true → uses z b ≤ uses y (with_given xs ts b)
    filled_uses (Node (Leaf x) a b) w n =
        let p = and_parts (is_phrase Nil a) _ w in
        leaf_uses x _ _ (uses z a + uses z b) (let i = no_uses z a p.0 in let j = no_uses z b p.1 in omega arith) (x == z) refl
    filled_uses (Node (Read x) a b) w n = absurd (both_ways false refl n)
    filled_uses (Node (Apply f) a b) w n =
        let p = and_parts (is_phrase Terms a) _ w in
        let q = and_parts (reads_no_array a) _ n in
        let i = filled_uses_all a p.0 q.0 in let j = no_uses z b p.1 in omega arith
    filled_uses (Node Eq a b) w n = let p = and_parts (is_phrase Term a) _ w in let q = and_parts (reads_no_array a) _ n in let i = filled_uses a p.0 q.0 in let j = filled_uses b p.1 q.1 in omega arith
    filled_uses (Node And a b) w n = let p = and_parts (is_phrase Term a) _ w in let q = and_parts (reads_no_array a) _ n in let i = filled_uses a p.0 q.0 in let j = filled_uses b p.1 q.1 in omega arith
    filled_uses (Node Or a b) w n = let p = and_parts (is_phrase Term a) _ w in let q = and_parts (reads_no_array a) _ n in let i = filled_uses a p.0 q.0 in let j = filled_uses b p.1 q.1 in omega arith
    filled_uses (Node Not a b) w n =
        let p = and_parts (is_phrase Term a) _ w in
        let q = and_parts (reads_no_array a) _ n in
        let i = filled_uses a p.0 q.0 in let j = no_uses z b p.1 in omega arith
    filled_uses (Node Yes a b) w n = let p = and_parts (is_phrase Nil a) _ w in let i = no_uses z a p.0 in let j = no_uses z b p.1 in omega arith
    filled_uses (Node No a b) w n = let p = and_parts (is_phrase Nil a) _ w in let i = no_uses z a p.0 in let j = no_uses z b p.1 in omega arith
    filled_uses b w n = absurd (both_ways false refl w)

    filled_uses_all : (b : Tree) → is_phrase Terms b ≡ true → reads_no_array b ≡ true → uses z b ≤ uses y (with_given xs ts b)
    filled_uses_all Empty w n = omega arith
    filled_uses_all (Node Cons a b) w n =
        let p = and_parts (is_phrase Term a) _ w in let q = and_parts (reads_no_array a) _ n in
        let i = filled_uses a p.0 q.0 in let j = filled_uses_all b p.1 q.1 in omega arith
    filled_uses_all b w n = absurd (both_ways false refl w)

  -- where it uses the variable no more often, what stands for another name doesn't use it

  leaf_alone : (x q : ℕ) (other a b : Tree) (u v : ℕ) → u ≡ 0 → v ≡ 0 → (x == z) ≡ false → term_for xs ts x ≡ Some other → (c : Bool) → (q == x) ≡ c → 0 < cond c 1 0 + v → uses y (or_node (term_for xs ts q) (Leaf q) a b) ≤ cond (q == z) 1 0 + u → uses y other ≡ 0
  leaf_alone x q other a b u v e f apart at true i l k =
      let same : q ≡ x = eqb-true q x i in
      let here : uses y (or_node (term_for xs ts q) (Leaf q) a b) ≡ uses y other = ap (λ o. uses y (or_node o (Leaf q) a b)) (ap (term_for xs ts) same ∙ at) in
      let none : cond {A = ℕ} (q == z) 1 0 ≡ 0 = ap (λ (c : Bool). cond {A = ℕ} c 1 0) (ap (λ n. n == z) same ∙ apart) in
      omega arith
  leaf_alone x q other a b u v e f apart at false i l k = absurd (omega arith)

  either : (a b : ℕ) → 0 < a + b → (0 < a) ⊎ (0 < b)
  either zero b l = inr (omega arith)
  either (suc a) b l = inl (omega arith)

  module _ (x : ℕ) (other : Tree) (apart : (x == z) ≡ false) (at : term_for xs ts x ≡ Some other) where
    both_alone : (a b : Tree) → uses z a ≤ uses y (with_given xs ts a) → uses z b ≤ uses y (with_given xs ts b)
        → (0 < uses x a → uses y (with_given xs ts a) ≤ uses z a → uses y other ≡ 0) → (0 < uses x b → uses y (with_given xs ts b) ≤ uses z b → uses y other ≡ 0)
        → 0 < uses x a + uses x b → uses y (with_given xs ts a) + uses y (with_given xs ts b) ≤ uses z a + uses z b → uses y other ≡ 0
    both_alone a b i j f k l m = go (either (uses x a) (uses x b) l)
      where
        go : (0 < uses x a) ⊎ (0 < uses x b) → uses y other ≡ 0
        go (inl n) = f n (omega arith)
        go (inr n) = k n (omega arith)

    mutual
      unfolding uses with_given is_phrase reads_no_array

      pub filled_alone : (b : Tree) → is_phrase Term b ≡ true → reads_no_array b ≡ true → 0 < uses x b → uses y (with_given xs ts b) ≤ uses z b → uses y other ≡ 0
      filled_alone (Node (Leaf q) a b) w n l m =
          let p = and_parts (is_phrase Nil a) _ w in
          leaf_alone x q other _ _ (uses z a + uses z b) (uses x a + uses x b) (let i = no_uses z a p.0 in let j = no_uses z b p.1 in omega arith) (let i = no_uses x a p.0 in let j = no_uses x b p.1 in omega arith) apart at (q == x) refl l m
      filled_alone (Node (Read q) a b) w n l m = absurd (both_ways false refl n)
      filled_alone (Node (Apply f) a b) w n l m =
          let p = and_parts (is_phrase Terms a) _ w in
          let i = no_uses x b p.1 in let j = no_uses z b p.1 in
          filled_alone_all a p.0 (and_parts (reads_no_array a) _ n).0 (omega arith) (omega arith)
      filled_alone (Node Eq a b) w n l m =
          let p = and_parts (is_phrase Term a) _ w in let q = and_parts (reads_no_array a) _ n in
          both_alone a b (filled_uses a p.0 q.0) (filled_uses b p.1 q.1) (λ c d. filled_alone a p.0 q.0 c d) (λ c d. filled_alone b p.1 q.1 c d) (omega arith) (omega arith)
      filled_alone (Node And a b) w n l m =
          let p = and_parts (is_phrase Term a) _ w in let q = and_parts (reads_no_array a) _ n in
          both_alone a b (filled_uses a p.0 q.0) (filled_uses b p.1 q.1) (λ c d. filled_alone a p.0 q.0 c d) (λ c d. filled_alone b p.1 q.1 c d) (omega arith) (omega arith)
      filled_alone (Node Or a b) w n l m =
          let p = and_parts (is_phrase Term a) _ w in let q = and_parts (reads_no_array a) _ n in
          both_alone a b (filled_uses a p.0 q.0) (filled_uses b p.1 q.1) (λ c d. filled_alone a p.0 q.0 c d) (λ c d. filled_alone b p.1 q.1 c d) (omega arith) (omega arith)
      filled_alone (Node Not a b) w n l m =
          let p = and_parts (is_phrase Term a) _ w in
          let i = no_uses x b p.1 in let j = no_uses z b p.1 in
          filled_alone a p.0 (and_parts (reads_no_array a) _ n).0 (omega arith) (omega arith)
      filled_alone (Node Yes a b) w n l m = let p = and_parts (is_phrase Nil a) _ w in absurd (let i = no_uses x a p.0 in let j = no_uses x b p.1 in omega arith)
      filled_alone (Node No a b) w n l m = let p = and_parts (is_phrase Nil a) _ w in absurd (let i = no_uses x a p.0 in let j = no_uses x b p.1 in omega arith)
      filled_alone b w n l m = absurd (both_ways false refl w)

      filled_alone_all : (b : Tree) → is_phrase Terms b ≡ true → reads_no_array b ≡ true → 0 < uses x b → uses y (with_given xs ts b) ≤ uses z b → uses y other ≡ 0
      filled_alone_all Empty w n l m = absurd (omega arith)
      filled_alone_all (Node Cons a b) w n l m =
          let p = and_parts (is_phrase Term a) _ w in let q = and_parts (reads_no_array a) _ n in
          both_alone a b (filled_uses a p.0 q.0) (filled_uses_all b p.1 q.1) (λ c d. filled_alone a p.0 q.0 c d) (λ c d. filled_alone_all b p.1 q.1 c d) (omega arith) (omega arith)
      filled_alone_all b w n l m = absurd (both_ways false refl w)

-- sums over sites

pub one_site : (x : ℕ) (ss : List Site) (k : ℕ) (s : Site) → slice_get ss k ≡ Some s → uses x s.term ≤ uses_in x ss
one_site x [] k s e = absurd (none e)
  where
    none : ◌≡◌ {A = Option Site} None (Some s) → ⊥
    none e = cc
one_site x (c ∷ ss) zero s e = let same : c ≡ s = cc in subst (λ (d : Site). uses x d.term ≤ uses x c.term + uses_in x ss) same (omega arith)
one_site x (c ∷ ss) (suc k) s e = let ih = one_site x ss k s e in omega arith

two_sites : (x : ℕ) (ss : List Site) (j k : ℕ) (r s : Site) → slice_get ss j ≡ Some r → slice_get ss k ≡ Some s → (k ≡ j → ⊥) → uses x r.term + uses x s.term ≤ uses_in x ss
two_sites x [] j k r s e f d = absurd (none e)
  where
    none : ◌≡◌ {A = Option Site} None (Some r) → ⊥
    none e = cc
two_sites x (c ∷ ss) zero zero r s e f d = absurd (d refl)
two_sites x (c ∷ ss) zero (suc k) r s e f d =
    let same : c ≡ r = cc in
    let rest = one_site x ss k s f in
    subst (λ (q : Site). uses x q.term + uses x s.term ≤ uses x c.term + uses_in x ss) same (omega arith)
two_sites x (c ∷ ss) (suc j) zero r s e f d =
    let same : c ≡ s = cc in
    let rest = one_site x ss j r e in
    subst (λ (q : Site). uses x r.term + uses x q.term ≤ uses x c.term + uses_in x ss) same (omega arith)
two_sites x (c ∷ ss) (suc j) (suc k) r s e f d = let ih = two_sites x ss j k r s e f (λ z. d (ap suc z)) in omega arith

pub used_there : (M : Matching) (w : Position) (rs : List (ℕ × ℕ)) (p : ℕ) (t : Tree) (x z number : ℕ) (s : Site) (xs : List ℕ) (ts given body : Tree) → slice_get (sites_in M w rs p t) number ≡ Some s → with_given xs ts body ≡ s.term → term_for xs ts z ≡ Some given → 0 < uses x given
    → is_phrase Term body ≡ true → reads_no_array body ≡ true → uses x t ≡ uses z body → (uses_outside M w x t ≡ 0) × IsUsedAt x number (sites_in M w rs p t) × (uses x s.term ≡ uses z body)
used_there M w rs p t x z number s xs ts given body at is found used term plain count =
    let least : uses z body ≤ uses x s.term = subst (λ (q : Tree). uses z body ≤ uses x q) is (filled_uses xs ts z x given found used body term plain) in
    let split = uses_apart M w rs p x t in
    let one = one_site x (sites_in M w rs p t) number s at in
    (omega arith, record { others = λ k r e d. let two = two_sites x (sites_in M w rs p t) number k s r at e d in omega arith }, omega arith)
