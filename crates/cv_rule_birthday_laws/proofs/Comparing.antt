-- Where no two cells of an array hold one value, a comparison of two of its cells has the value of the comparison of their indices.
use Rattle.std.proofs.Common.{◌≡◌, inl, inr, ℕ, ◌&&◌, ◌==◌, Bool, true, false, cond, List, [], ◌∷◌, map, Some, None, is_some, refl, sym, ap, ap₂, subst, ◌∙◌, eq-eqb, eqb-true}
use Rattle.std.proofs.lemmas.Bool.{and_parts, both_ways}
use Rattle.std.specs.List.{AllByRecursion}
use Rattle.cv_syntax_trees.specs.declared.head.Head.TheVariants.{Eq, Leaf, Read}
use Rattle.cv_syntax_trees.specs.Tree.{Tree, Empty, Node, first}
use Rattle.cv_meaning.specs.Interpretation.{Setting}
use Rattle.cv_meaning.specs.Memory.{Indices, Store}
use Rattle.cv_meaning.specs.Still.{head_is_still, is_still}
use Rattle.cv_meaning.specs.Tapes.{Tape, same_tuple}
use Rattle.cv_meaning.specs.Terms.{bit, found_in, is_one, leaf_value_from, or_zero, value, values}
use Rattle.cv_meaning_laws.specs.adequacy.Typed.{AreBelowParameters}
use Rattle.cv_meaning_laws.proofs.Counts.{same_tuple_exact, same_tuple_refl}
use Rattle.cv_meaning_chances.specs.Tests.{some_equal}
use Rattle.cv_scene.specs.lines.Inferences.{equations_of}
use Rattle.cv_scope_rules.specs.Context.{items}
use Rattle.cv_scope_rules.specs.Phrases.{Nil, Term, is_oracle_phrase}
use Rattle.cv_scope_runs.specs.Reads.{LeafAssigned, TermAssigned}
use Rattle.cv_scope_runs.proofs.TermsLater.{some_of}
use Rattle.cv_scene.specs.Instances.{is_read_of}
use Rattle.cv_scene.specs.Sights.{variable_of}
use Rattle.cv_rule_birthday.specs.Comparing.{compared, is_comparison, same_indices}
use Rattle.cv_rule_birthday_laws.specs.chosen.Drawn.{AreDrawn, choices_of}
use Rattle.cv_rule_birthday_laws.proofs.chosen.Pairs.{one_tuple}

-- what is changed has no construct with a body

still_items : (a : Tree) → is_still a ≡ true → AllByRecursion (λ t. is_still t ≡ true) (items a)
still_items Empty e = tt
still_items (Node h a b) e = let r = and_parts (is_still a) (is_still b) (and_parts (head_is_still h) _ e).1 in (r.0, still_items b r.1)

still_equations : (ms ns : List Tree) → AllByRecursion (λ t. is_still t ≡ true) ms → AllByRecursion (λ t. is_still t ≡ true) ns → is_still (equations_of ms ns) ≡ true
still_equations [] ns h k = refl
still_equations (m ∷ []) [] h k = refl
still_equations (m ∷ []) (n ∷ []) h k = ap₂ ◌&&◌ h.0 k.0
still_equations (m ∷ []) (n ∷ (o ∷ ns)) h k = ap₂ (λ u v. (u && v) && true) h.0 k.0
still_equations (m ∷ (l ∷ ms)) [] h k = refl
still_equations (m ∷ (l ∷ ms)) (n ∷ ns) h k = ap₂ ◌&&◌ (ap₂ ◌&&◌ h.0 k.0) (still_equations (l ∷ ms) ns h.1 k.1)

still_first : (t : Tree) → is_still t ≡ true → is_still (first t) ≡ true
still_first Empty e = refl
still_first (Node h a b) e = (and_parts (is_still a) (is_still b) (and_parts (head_is_still h) _ e).1).0

pub still_compared : (t : Tree) → is_still t ≡ true → is_still (compared t) ≡ true
still_compared (Node Eq l r) e = go (items (first l)) (still_items (first l) (still_first l q.0)) (still_items (first r) (still_first r q.1))
  where
    q : (is_still l ≡ true) × (is_still r ≡ true)
    q = and_parts (is_still l) (is_still r) e

    go : (ms : List Tree) → AllByRecursion (λ t. is_still t ≡ true) ms → AllByRecursion (λ t. is_still t ≡ true) (items (first r)) → is_still (same_indices ms (items (first r))) ≡ true
    go [] h k = refl
    go (m ∷ ms) h k = still_equations (m ∷ ms) (items (first r)) h k
still_compared t e = e

module _ (g : Setting) (at : Indices) (m : Store) where
  abbrev V : Tree → ℕ
  V t = value g at m t

  one_bit : (b : Bool) → is_one (bit b) ≡ b
  one_bit true = refl
  one_bit false = refl

  and_true : (b : Bool) → b ≡ (b && true)
  and_true true = refl
  and_true false = refl

  -- the conjunction of equations between as many terms
  equations_say : (ps : List ℕ) (a : Tree) (ms : List Tree) (b : Tree) (ns : List Tree) → AreBelowParameters g.interpretation ps (map V ms) → AreBelowParameters g.interpretation ps (map V ns)
      → V (equations_of (a ∷ ms) (b ∷ ns)) ≡ bit ((V a == V b) && same_tuple (map V ms) (map V ns))
  unfolding value
  equations_say [] a [] b [] h k = ap bit (and_true (V a == V b))
  equations_say [] a [] b (n ∷ ns) h k = absurd k
  equations_say [] a (l ∷ ms) b ns h k = absurd h
  equations_say (p ∷ ps) a [] b ns h k = absurd h
  equations_say (p ∷ ps) a (l ∷ ms) b [] h k = absurd k
  equations_say (p ∷ ps) a (l ∷ ms) b (n ∷ ns) h k =
      ap₂ (λ u v. bit (u && v)) (one_bit (V a == V b)) (ap is_one (equations_say ps l ms n ns h.1 k.1) ∙ one_bit ((V l == V n) && same_tuple (map V ms) (map V ns)))

  indices_say : (ps : List ℕ) (ms ns : List Tree) → AreBelowParameters g.interpretation ps (map V ms) → AreBelowParameters g.interpretation ps (map V ns) → V (same_indices ms ns) ≡ bit (same_tuple (map V ms) (map V ns))
  unfolding value
  indices_say [] [] [] h k = refl
  indices_say [] [] (n ∷ ns) h k = absurd k
  indices_say [] (l ∷ ms) ns h k = absurd h
  indices_say (p ∷ ps) [] ns h k = absurd h
  indices_say (p ∷ ps) (l ∷ ms) [] h k = absurd k
  indices_say (p ∷ ps) (l ∷ ms) (n ∷ ns) h k = equations_say ps l ms n ns h.1 k.1

  items_values : (t : Tree) → values g at m t ≡ map V (items t)
  unfolding values
  items_values Empty = refl
  items_values (Node h a b) = ap (λ vs. V a ∷ vs) (items_values b)

  -- a side reads a cell that is assigned
  record IsCell (x : ℕ) (t : Tree) : Type 0 where
    drawn : ℕ
    assigned : m x (map V (items (first t))) ≡ Some drawn
    is : V t ≡ drawn

  nil_empty : (t : Tree) → is_oracle_phrase Nil t ≡ true → t ≡ Empty
  unfolding is_oracle_phrase
  nil_empty Empty e = refl
  nil_empty (Node h a b) e = absurd (both_ways false refl e)

  cell_there : (x : ℕ) (t : Tree) → g.is_constant x ≡ false → found_in at x ≡ None → is_oracle_phrase Term t ≡ true → is_read_of x (variable_of t) ≡ true → TermAssigned g at m t → IsCell x t
  unfolding value is_oracle_phrase
  cell_there x (Node (Leaf y) a b) c f w e r =
      let same : y ≡ x = eqb-true y x e in
      let none : found_in at y ≡ None = ap (found_in at) same ∙ f in
      let constant : g.is_constant y ≡ false = ap g.is_constant same ∙ c in
      let empty : a ≡ Empty = nil_empty a (and_parts (is_oracle_phrase Nil a) _ w).0 in
      let v = some_of (m y []) (there y constant (subst (LeafAssigned g m y) none r)) in
      record {
        drawn = v.0;
        assigned = ap₂ (λ z s. m z (map V (items s))) (sym same) empty ∙ v.1;
        is = ap (leaf_value_from g m y) none ∙ (ap (λ b. cond b (g.interpretation.table y []) (or_zero (m y []))) constant ∙ ap or_zero v.1);
      }
    where
      there : (y : ℕ) → g.is_constant y ≡ false → LeafAssigned g m y None → is_some (m y []) ≡ true
      there y c (inl i) = absurd (both_ways (g.is_constant y) c i)
      there y c (inr i) = i
  cell_there x (Node (Read y) a b) c f w e r =
      let same : y ≡ x = eqb-true y x e in
      let v = some_of (m y (values g at m a)) r.0 in
      record { drawn = v.0; assigned = ap₂ m (sym same) (sym (items_values a)) ∙ v.1; is = ap or_zero v.1 }
  cell_there x t c f w e r = absurd (both_ways false refl e)

  -- a comparison
  pub comparison_says : (x : ℕ) (ps : List ℕ) (t : Tape) → some_equal (choices_of g x ps) t ≡ false → AreDrawn g x ps t m → g.is_constant x ≡ false → found_in at x ≡ None
      → (u : Tree) → is_oracle_phrase Term u ≡ true → is_comparison x u ≡ true → TermAssigned g at m u → V u ≡ V (compared u)
  unfolding value is_oracle_phrase
  comparison_says x ps t off drawn c f (Node Eq l r) w e k =
      let p = and_parts (is_oracle_phrase Term l) (is_oracle_phrase Term r) w in
      let q = and_parts (is_read_of x (variable_of l)) _ e in
      let i : IsCell x l = cell_there x l c f p.0 q.0 k.0 in
      let j : IsCell x r = cell_there x r c f p.1 q.1 k.1 in
      let ms : List Tree = items (first l) in
      let ns : List Tree = items (first r) in
      let d = drawn (map V ms) i.drawn i.assigned in
      let o = drawn (map V ns) j.drawn j.assigned in
      ap₂ (λ y z. bit (y == z)) i.is j.is
      ∙ (ap bit (same (map V ms) (map V ns) i.drawn j.drawn i.assigned j.assigned d.1 o.1 (λ z. one_tuple g x ps t off (map V ms) (map V ns) d.1 o.1 (sym d.0 ∙ z ∙ o.0)))
      ∙ sym (indices_say ps ms ns d.1 o.1))
    where
      same : (us ws : List ℕ) (y z : ℕ) → m x us ≡ Some y → m x ws ≡ Some z → AreBelowParameters g.interpretation ps us → AreBelowParameters g.interpretation ps ws → (y ≡ z → us ≡ ws) → (y == z) ≡ same_tuple us ws
      same us ws y z a b h k one = go (y == z) refl (same_tuple us ws) refl
        where
          go : (v : Bool) → (y == z) ≡ v → (w : Bool) → same_tuple us ws ≡ w → v ≡ w
          go true i true j = refl
          go false i false j = refl
          go true i false j =
              let e : us ≡ ws = one (eqb-true y z i) in
              absurd (both_ways (same_tuple us ws) j (subst (λ vs. same_tuple us vs ≡ true) e (same_tuple_refl us)))
          go false i true j =
              let e : us ≡ ws = same_tuple_exact us ws j in
              let s : Some y ≡ Some z = sym a ∙ (ap (m x) e ∙ b) in
              let q : y ≡ z = cc in
              absurd (both_ways (y == z) i (eq-eqb y z q))
  comparison_says x ps t off drawn c f u w e k = absurd (both_ways false refl e)
