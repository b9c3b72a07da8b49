-- A `defined` list with a cell more or less says the same, where that cell is assigned if another one of the list is.
use Rattle.std.proofs.Common.{◌≡◌, ◌&&◌, ◌||◌, Bool, true, false, cond, refl, sym, ap, ◌∙◌}
use Rattle.std.proofs.lemmas.Bool.{both_ways, or_right}
use Rattle.cv_syntax_trees.specs.declared.head.Head.{Head}
use Rattle.cv_syntax_trees.specs.Tree.{Tree, Empty, Node, same_tree}
use Rattle.cv_syntax_trees.proofs.Equality.{same_tree_exact}
use Rattle.cv_meaning.specs.Candidates.{are_assigned, is_assigned}
use Rattle.cv_meaning.specs.Interpretation.{Setting}
use Rattle.cv_meaning.specs.Memory.{Indices, Store}
use Rattle.cv_rule_codef.specs.Lists.{has_cell, relisted, with_cell, without_cell}

and_same : (v w : Bool) → (v ≡ true → w ≡ true) → (v && w) ≡ v
and_same true w e = e refl
and_same false w e = refl

and_other : (v w : Bool) → (w ≡ true → v ≡ true) → (v && w) ≡ w
and_other true w e = refl
and_other false true e = absurd (both_ways false refl (e refl))
and_other false false e = refl

-- a cell of a list that drops another one
other_stays : (c d cells : Tree) → same_tree d c ≡ false → has_cell c cells ≡ true → has_cell c (without_cell d cells) ≡ true
other_stays c d Empty e i = i
other_stays c d (Node h item more) e i = go (same_tree item d) refl (same_tree item c) refl i (other_stays c d more e)
  where
    go : (v : Bool) → same_tree item d ≡ v → (w : Bool) → same_tree item c ≡ w → (w || has_cell c more) ≡ true → (has_cell c more ≡ true → has_cell c (without_cell d more) ≡ true)
        → has_cell c (cond v more (Node h item (without_cell d more))) ≡ true
    go true f true g i k = absurd (both_ways (same_tree d c) e (ap (λ t. same_tree t c) (sym (same_tree_exact item d f)) ∙ g))
    go true f false g i k = i
    go false f true g i k = ap (λ w. w || has_cell c (without_cell d more)) g
    go false f false g i k = or_right (same_tree item c) _ (k i)

module _ (g : Setting) (at : Indices) (m n : Store) where
  abbrev one : Tree → Bool
  one c = is_assigned g at m n c

  abbrev all : Tree → Bool
  all cells = are_assigned g at m n cells

  first_and_rest : (h : Head) (item more : Tree) → all (Node h item more) ≡ (one item && all more)
  first_and_rest h item more = go (one item)
    where
      go : (v : Bool) → (elim v [ true ↦ all more | false ↦ false ]) ≡ (v && all more)
      go true = refl
      go false = refl

  -- each cell of a list that is assigned is
  listed : (c cells : Tree) → has_cell c cells ≡ true → all cells ≡ true → one c ≡ true
  listed c Empty i a = absurd (both_ways false refl i)
  listed c (Node h item more) i a = go (same_tree item c) refl (one item) refl i (sym (first_and_rest h item more) ∙ a) (listed c more)
    where
      go : (v : Bool) → same_tree item c ≡ v → (w : Bool) → one item ≡ w → (v || has_cell c more) ≡ true → (one item && all more) ≡ true → (has_cell c more ≡ true → all more ≡ true → one c ≡ true) → one c ≡ true
      go true e true f i a k = ap one (sym (same_tree_exact item c e)) ∙ f
      go false e true f i a k = k i (ap (λ w. w && all more) (sym f) ∙ a)
      go v e false f i a k = absurd (both_ways false refl (ap (λ w. w && all more) (sym f) ∙ a))

  with_last : (c cells : Tree) → all (with_cell c cells) ≡ (all cells && one c)
  with_last c Empty = go (one c)
    where
      go : (v : Bool) → (elim v [ true ↦ true | false ↦ false ]) ≡ v
      go true = refl
      go false = refl
  with_last c (Node h item more) = first_and_rest h item (with_cell c more) ∙ go (one item) (all (with_cell c more)) (with_last c more)
    where
      go : (v w : Bool) → w ≡ (all more && one c) → (v && w) ≡ ((elim v [ true ↦ all more | false ↦ false ]) && one c)
      go true w e = e
      go false w e = refl

  without_one : (c cells : Tree) → has_cell c cells ≡ true → all cells ≡ (one c && all (without_cell c cells))
  without_one c Empty i = absurd (both_ways false refl i)
  without_one c (Node h item more) i = first_and_rest h item more ∙ go (same_tree item c) refl i (without_one c more)
    where
      swap : (u v : Bool) → (all more ≡ (v && all (without_cell c more))) → (u && all more) ≡ (v && (elim u [ true ↦ all (without_cell c more) | false ↦ false ]))
      swap true v e = e
      swap false true e = refl
      swap false false e = refl

      go : (v : Bool) → same_tree item c ≡ v → (v || has_cell c more) ≡ true → (has_cell c more ≡ true → all more ≡ (one c && all (without_cell c more)))
          → (one item && all more) ≡ (one c && all (cond v more (Node h item (without_cell c more))))
      go true e i k = ap (λ t. one t && all more) (same_tree_exact item c e)
      go false e i k = swap (one item) (one c) (k i)

  -- with a cell more or less, where it is assigned if another cell of the list is
  module _ (from to cells : Tree) (i : has_cell from cells ≡ true) (f : one from ≡ true → one to ≡ true) where
    added : all cells ≡ all (with_cell to cells)
    added = sym (with_last to cells ∙ and_same (all cells) (one to) (λ a. f (listed from cells i a)))

    dropped : same_tree to from ≡ false → has_cell to cells ≡ true → all cells ≡ all (without_cell to cells)
    dropped e j = without_one to cells j ∙ and_other (one to) (all (without_cell to cells)) (λ a. f (listed from (without_cell to cells) (other_stays from to cells e i) a))

    pub says_the_same : (adds : Bool) → same_tree to from ≡ false → (cond adds true (has_cell to cells)) ≡ true → all cells ≡ all (relisted adds to cells)
    says_the_same true e j = added
    says_the_same false e j = dropped e j
