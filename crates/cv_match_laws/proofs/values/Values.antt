-- A body with terms for its names has the value of the body where the names stand for the values of these terms.
use Rattle.std.proofs.Common.{◌≡◌, ℕ, Bool, true, false, cond, ◌||◌, ◌&&◌, not, ◌==◌, List, [], ◌∷◌, Option, Some, None, refl, sym, ap, ap₂, subst, ◌∙◌}
use Rattle.std.proofs.lemmas.Bool.{both_ways, and_parts}
use Rattle.cv_syntax_trees.specs.declared.head.Head.TheVariants.{Leaf, Read, Apply, Eq, And, Or, Not, Yes, No, Cons}
use Rattle.cv_syntax_trees.specs.Tree.{Tree, Empty, Node, reads_only}
use Rattle.cv_syntax.specs.NameSets.{is_one_of}
use Rattle.cv_meaning.specs.Interpretation.{Setting}
use Rattle.cv_meaning.specs.Memory.{Indices, Store}
use Rattle.cv_meaning.specs.Terms.{bit, is_one, leaf_value_from, or_zero, value, values}
use Rattle.cv_meaning.specs.contexts.Frames.{Frame, IsValue, Meaning, meaning_of}
use Rattle.cv_meaning.specs.contexts.BodyTerms.{are_equal, body_value, body_values, call_at, call_meant, plain_value}
use Rattle.cv_scope_rules.specs.Phrases.{Term, Terms, is_phrase}
use Rattle.cv_scene.specs.lines.Given.{or_node, term_for, with_given}
use Rattle.cv_scene.specs.LeftTerms.{reads_no_array}
use Rattle.cv_scene.specs.Standing.{HasNoConstant}

module _ (g : Setting) (at : Indices) (m : Store) where
  -- names, what is given for them, and what they stand for
  abbrev pub Stand : List ℕ → Tree → List (ℕ × Meaning) → Type 0
  Stand [] Empty [] = Unit {0}
  Stand (x ∷ xs) (Node h t more) (p ∷ ps) = (x ≡ p.0) × (p.1 ≡ IsValue (value g at m t)) × Stand xs more ps
  Stand xs ts ps = ⊥

  abbrev Found : List ℕ → ℕ → Option Tree → Option Meaning → Type 0
  Found xs x None None = is_one_of xs x ≡ false
  Found xs x (Some t) (Some k) = k ≡ IsValue (value g at m t)
  Found xs x o r = ⊥

  found_more : (xs : List ℕ) (y x : ℕ) (o : Option Tree) (r : Option Meaning) → (y == x) ≡ false → Found xs x o r → Found (y ∷ xs) x o r
  found_more xs y x None None e h = ap₂ ◌||◌ e h
  found_more xs y x (Some t) (Some k) e h = h
  found_more xs y x None (Some k) e h = h
  found_more xs y x (Some t) None e h = h

  found : (xs : List ℕ) (ts : Tree) (ps : List (ℕ × Meaning)) → Stand xs ts ps → (x : ℕ) → Found xs x (term_for xs ts x) (meaning_of ps x)
  found [] Empty [] s x = refl
  found (y ∷ xs) (Node h t more) (p ∷ ps) s x =
      subst (λ z. Found (y ∷ xs) x (cond (y == x) (Some t) (term_for xs more x)) (cond (z == x) (Some p.1) (meaning_of ps x))) s.0
      (go (y == x) refl (found xs more ps s.2 x))
    where
      go : (b : Bool) → (y == x) ≡ b → Found xs x (term_for xs more x) (meaning_of ps x) → Found (y ∷ xs) x (cond b (Some t) (term_for xs more x)) (cond b (Some p.1) (meaning_of ps x))
      go true e ih = s.1
      go false e ih = found_more xs y x _ _ e ih
  found [] Empty (p ∷ ps) s x = absurd s
  found [] (Node h t more) ps s x = absurd s
  found (y ∷ xs) Empty ps s x = absurd s
  found (y ∷ xs) (Node h t more) [] s x = absurd s

  module _ (e : Frame) (xs : List ℕ) (ts : Tree) (s : Stand xs ts e.names) (constant : HasNoConstant g at) where
    abbrev on : ℕ → Bool
    on x = is_one_of xs x || g.is_constant x

    leaf_from : (x : ℕ) (a b : Tree) (o : Option Tree) (r : Option Meaning) → Found xs x o r → on x ≡ true → value g at m (or_node o (Leaf x) a b) ≡ plain_value g x r
    unfolding value
    leaf_from x a b None None n k =
        let c : g.is_constant x ≡ true = sym (ap (λ z. z || g.is_constant x) n) ∙ k in
        ap (leaf_value_from g m x) (constant x c) ∙ ap (λ z. cond z (g.interpretation.table x []) (or_zero (m x []))) c ∙ sym (ap (λ z. cond z (g.interpretation.table x []) 0) c)
    leaf_from x a b (Some t) (Some k) n c = sym (ap (λ r. plain_value g x (Some r)) n)
    leaf_from x a b None (Some k) n c = absurd n
    leaf_from x a b (Some t) None n c = absurd n

    no_call_from : (xs : List ℕ) (x : ℕ) (o : Option Tree) (r : Option Meaning) → Found xs x o r → call_meant r ≡ None
    no_call_from xs x None None n = refl
    no_call_from xs x (Some t) (Some k) n = ap (λ r. call_meant (Some r)) n
    no_call_from xs x None (Some k) n = absurd n
    no_call_from xs x (Some t) None n = absurd n

    no_call : (a : Tree) → call_at e a ≡ None
    no_call Empty = refl
    no_call (Node (Leaf x) a b) = no_call_from xs x _ _ (found xs ts e.names s x)
    no_call (Node h a b) = refl

    mutual
      unfolding value with_given body_value reads_only reads_no_array is_phrase

      pub filled_value : (b : Tree) → is_phrase Term b ≡ true → reads_only on b ≡ true → reads_no_array b ≡ true → value g at m (with_given xs ts b) ≡ body_value g e b
      filled_value (Node (Leaf x) a b) w k n = leaf_from x _ _ _ _ (found xs ts e.names s x) (and_parts (on x) _ k).0
      filled_value (Node (Read x) a b) w k n = absurd (both_ways false refl n)
      filled_value (Node (Apply f) a b) w k n =
          ap (g.interpretation.table f) (filled_values a (and_parts (is_phrase Terms a) _ w).0 (and_parts (reads_only on a) _ k).0 (and_parts (reads_no_array a) _ n).0)
      filled_value (Node Eq a b) w k n =
          let r = and_parts (is_phrase Term a) _ w in
          let p = and_parts (reads_only on a) _ k in
          let q = and_parts (reads_no_array a) _ n in
          ap₂ (λ x y. bit (x == y)) (filled_value a r.0 p.0 q.0) (filled_value b r.1 p.1 q.1)
          ∙ sym (ap₂ (λ x y. bit (are_equal x y (body_value g e a == body_value g e b))) (no_call a) (no_call b))
      filled_value (Node And a b) w k n =
          let r = and_parts (is_phrase Term a) _ w in
          let p = and_parts (reads_only on a) _ k in
          let q = and_parts (reads_no_array a) _ n in
          ap₂ (λ x y. bit (is_one x && is_one y)) (filled_value a r.0 p.0 q.0) (filled_value b r.1 p.1 q.1)
      filled_value (Node Or a b) w k n =
          let r = and_parts (is_phrase Term a) _ w in
          let p = and_parts (reads_only on a) _ k in
          let q = and_parts (reads_no_array a) _ n in
          ap₂ (λ x y. bit (is_one x || is_one y)) (filled_value a r.0 p.0 q.0) (filled_value b r.1 p.1 q.1)
      filled_value (Node Not a b) w k n =
          ap (λ x. bit (not (is_one x))) (filled_value a (and_parts (is_phrase Term a) _ w).0 (and_parts (reads_only on a) _ k).0 (and_parts (reads_no_array a) _ n).0)
      filled_value (Node Yes a b) w k n = refl
      filled_value (Node No a b) w k n = refl
      filled_value b w k n = absurd (both_ways false refl w)

      pub filled_values : (b : Tree) → is_phrase Terms b ≡ true → reads_only on b ≡ true → reads_no_array b ≡ true → values g at m (with_given xs ts b) ≡ body_values g e b
      filled_values Empty w k n = refl
      filled_values (Node Cons a b) w k n =
          let r = and_parts (is_phrase Term a) _ w in
          let p = and_parts (reads_only on a) _ k in
          let q = and_parts (reads_no_array a) _ n in
          ap₂ ◌∷◌ (filled_value a r.0 p.0 q.0) (filled_values b r.1 p.1 q.1)
      filled_values b w k n = absurd (both_ways false refl w)
