-- Where routes end.
use Rattle.std.proofs.Common.{subst, ◌≡◌, ℕ, suc, ◌+◌, ◌-◌, ◌<◌, ◌≤◌, List, [], ◌∷◌, ◌++◌, length, map, take, drop, get_or, refl, sym, ap, ◌∙◌, arith, Some, None, append-nil, append_assoc, All, zero}
use Rattle.std.proofs.lemmas.List.{drop_all, drop_more, map-append}
use Rattle.std.proofs.lemmas.List.Elements.{All-append, All-cons, All-nil}
use Rattle.cv_pool.specs.KindTree.{KindTree}
use Rattle.cv_syntax_trees.specs.declared.head.Head.{Head}
use Rattle.cv_syntax_trees.specs.Head.{weight}
use Rattle.cv_syntax_trees.specs.Tree.{Tree, Empty, Node, size}
use Rattle.cv_path.specs.declared.place.Lies.{Lies}
use Rattle.cv_path.specs.declared.place.Lies.TheVariants.{Here, Within, Behind}
use Rattle.cv_path.specs.Places.{LiesAt}
use Rattle.cv_path.proofs.Bounds.{lies_somewhere}
use Rattle.cv_path.proofs.Going.{choice_behind, less_behind}
use Rattle.cv_scope_rules.specs.declared.position.Position.{Position}
use Rattle.cv_scope_rules.specs.declared.position.Position.TheVariants.{Anywhere}
use Rattle.cv_scope_rules.specs.Context.{Context, context_at, first_context, first_position, items, nothing_known, second_context, second_position}
use Rattle.cv_scene.specs.Scenes.{Scene}
use Rattle.cv_scene.specs.Late.{index_term}
use Rattle.cv_scene.specs.Terms.{replications_at, replications_by}
use Rattle.cv_query_parts.specs.declared.pairs.routes.Index.{Index}
use Rattle.cv_query_parts.specs.declared.pairs.routes.Index.TheVariants.{Own}
use Rattle.cv_query_parts.specs.pairs.Routes.{index_tree}

-- a place that a game doesn't have

known_behind : (w : Position) (Γ : Context) (h : Head) (a b : Tree) (p q : ℕ) → LiesAt h a p (Behind q) → context_at w Γ (Node h a b) p ≡ context_at (second_position w h) (second_context w h a Γ) b q
unfolding context_at
known_behind w Γ h a b p q l =
    choice_behind h a p (Some Γ) (context_at (first_position w h) (first_context w h Γ) a (p - weight h)) (context_at (second_position w h) (second_context w h a Γ) b (p - (weight h + size a))) q l
    ∙ ap (context_at (second_position w h) (second_context w h a Γ) b) (less_behind h a p q l)

known_empty : (w : Position) (Γ : Context) (p : ℕ) → context_at w Γ Empty p ≡ None
unfolding context_at
known_empty w Γ p = refl

known_past : (w : Position) (Γ : Context) (t : Tree) (p : ℕ) → size t ≤ p → context_at w Γ t p ≡ None
unfolding size
known_past w Γ Empty p l = known_empty w Γ p
known_past w Γ (Node h a b) p l = go (known_past (second_position w h) (second_context w h a Γ) b) (lies_somewhere h a p)
  where
    go : ((q : ℕ) → size b ≤ q → context_at (second_position w h) (second_context w h a Γ) b q ≡ None) → (k : Lies) × LiesAt h a p k → context_at w Γ (Node h a b) p ≡ None
    go g (Here, k) = absurd (omega (arith, k, l))
    go g (Within q, k) = let m : weight h + q ≡ p = k.0 in let n : q < size a = k.1 in absurd (omega (arith, l))
    go g (Behind q, k) = let m : weight h + size a + q ≡ p = k in known_behind w Γ h a b p q k ∙ g q (omega arith)

pub past_replications : (s : Scene) (p : ℕ) → size s.game ≤ p → replications_at s p ≡ []
past_replications s p l = ap replications_by (known_past Anywhere nothing_known s.game p l)

-- terms, one by one

taken : (n m : ℕ) (t : Tree) (ts : List Tree) → n ≡ suc m → take n (t ∷ ts) ≡ t ∷ take m ts
taken n m t ts e = ap (λ k. take k (t ∷ ts)) e

none_taken : (n : ℕ) → take {A = Tree} n [] ≡ []
none_taken zero = refl
none_taken (suc n) = refl

module _ {A : Type 0} (f : A → Tree) (count k : ℕ) (t : Tree) (found : List A) (total : List Tree) (i : map f found ++ take (count - k) (items t) ≡ total) where
  pub term_more : (h : Head) (a b : Tree) (x : A) (new : List A) → k < count → t ≡ Node h a b → f x ≡ a → new ≡ found ++ x ∷ [] → map f new ++ take (count - (k + 1)) (items b) ≡ total
  term_more h a b x new l e g j =
      let n : count - k ≡ suc (count - (k + 1)) = omega arith in
      let rest = take (count - (k + 1)) (items b) in
      ap (λ xs. map f xs ++ rest) j
      ∙ (ap (λ ts. ts ++ rest) (map-append f found (x ∷ []))
      ∙ (append_assoc (map f found) (f x ∷ []) rest
      ∙ (ap (λ ts. map f found ++ ts) (ap (λ u. u ∷ rest) g ∙ sym (ap (λ u. take (count - k) (items u)) e ∙ taken (count - k) (count - (k + 1)) a (items b) n)) ∙ i)))

  pub no_term : t ≡ Empty → map f found ≡ total
  no_term e = sym (append-nil (map f found)) ∙ (ap (λ ts. map f found ++ ts) (sym (ap (λ u. take (count - k) (items u)) e ∙ none_taken (count - k))) ∙ i)

  pub all_terms : count ≤ k → map f found ≡ total
  all_terms l = let n : count - k ≡ 0 = omega arith in sym (append-nil (map f found)) ∙ (ap (λ ts. map f found ++ ts) (sym (ap (λ m. take m (items t)) n)) ∙ i)

pub one_more : {A : Type 0} (P : A → Type 0) (xs ys : List A) (x : A) → All P xs → P x → ys ≡ xs ++ x ∷ [] → All P ys
one_more {A = A} P xs ys x a p e = let Q : List A → Type 0 = All P in subst Q (sym e) (All-append P xs (x ∷ []) a (All-cons P x [] p (All-nil P)))

-- indices of replications, one by one

pub own_more : (trees : List KindTree) (rs : List (ℕ × ℕ)) (k : ℕ) (found new : List Index) (total : List Tree) → k < length rs → new ≡ found ++ Own (get_or rs k (0, 0)).0 ∷ [] → map (index_tree trees) found ++ map index_term (drop k rs) ≡ total
    → map (index_tree trees) new ++ map index_term (drop (k + 1) rs) ≡ total
own_more trees rs k found new total l e i =
    let rest = map index_term (drop (k + 1) rs) in
    ap (λ xs. map (index_tree trees) xs ++ rest) e
    ∙ (ap (λ ts. ts ++ rest) (map-append (index_tree trees) found (Own (get_or rs k (0, 0)).0 ∷ []))
    ∙ (append_assoc (map (index_tree trees) found) (index_term (get_or rs k (0, 0)) ∷ []) rest
    ∙ (ap (λ qs. map (index_tree trees) found ++ map index_term qs) (sym (drop_more rs k (0, 0) l)) ∙ i)))

pub own_done : (trees : List KindTree) (rs : List (ℕ × ℕ)) (k : ℕ) (found : List Index) (total : List Tree) → length rs ≤ k → map (index_tree trees) found ++ map index_term (drop k rs) ≡ total → map (index_tree trees) found ≡ total
own_done trees rs k found total l i = sym (append-nil (map (index_tree trees) found)) ∙ (ap (λ qs. map (index_tree trees) found ++ map index_term qs) (sym (drop_all k rs l)) ∙ i)
