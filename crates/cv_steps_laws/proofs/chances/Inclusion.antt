-- The cells of a game are those of the game with less in one place, and perhaps more.
use Rattle.std.proofs.Common.{ℕ, List, ◌++◌, flat_map, ◌⊎◌, inl, inr}
use Rattle.cv_syntax_trees.specs.declared.head.Head.{Head}
use Rattle.cv_syntax_trees.specs.declared.head.Head.TheVariants.{Branch, Cons, Find, Par}
use Rattle.cv_syntax_trees.specs.Tree.{Tree, Node}
use Rattle.cv_meaning.specs.Tapes.{Cell}
use Rattle.cv_meaning.specs.Interpretation.{Setting}
use Rattle.cv_meaning.specs.Cells.{at_each_copy, bounds_under, tuples_below}
use Rattle.cv_meaning_laws.proofs.Listed.{Has, has_left, has_right}
use Rattle.cv_meaning_laws.proofs.adequacy.Lists.{has_append}
use Rattle.cv_meaning_runs.specs.Replacement as runs
use Rattle.cv_meaning_runs.specs.Replacement.{IsReplaced, here, in_branch, in_continuation, in_find, in_later_branch, in_list, in_parallel}

module _ (g : Setting) (give : Head → List ℕ → List (Cell × ℕ)) where
  abbrev copies : List ℕ → Tree → List (Cell × ℕ)
  copies bounds t = at_each_copy g give bounds t

  -- each cell of the second tree is one of the first, at any bounds
  abbrev pub Includes : Tree → Tree → Type 0
  Includes a b = (bounds : List ℕ) (d : Cell × ℕ) → Has (copies bounds b) d → Has (copies bounds a) d

  pub stays : (a : Tree) → Includes a a
  stays a bounds d h = h

  pub first_in : (h : Head) (a b : Tree) (bounds : List ℕ) (d : Cell × ℕ) → Has (copies (bounds_under g bounds h) a) d → Has (copies bounds (Node h a b)) d
  unfolding at_each_copy
  first_in h a b bounds d k = has_right (flat_map (give h) (tuples_below bounds)) _ d (has_left (copies (bounds_under g bounds h) a) _ d k)

  pub second_in : (h : Head) (a b : Tree) (bounds : List ℕ) (d : Cell × ℕ) → Has (copies (bounds_under g bounds h) b) d → Has (copies bounds (Node h a b)) d
  unfolding at_each_copy
  second_in h a b bounds d k = has_right (flat_map (give h) (tuples_below bounds)) _ d (has_right (copies (bounds_under g bounds h) a) _ d k)

  pub under : (h : Head) (a b c e : Tree) → Includes a c → Includes b e → Includes (Node h a b) (Node h c e)
  unfolding at_each_copy
  under h a b c e f k bounds d z = go (has_append (flat_map (give h) (tuples_below bounds)) _ d z)
    where
      inside : Has (copies (bounds_under g bounds h) c) d ⊎ Has (copies (bounds_under g bounds h) e) d → Has (copies bounds (Node h a b)) d
      inside (inl i) = first_in h a b bounds d (f (bounds_under g bounds h) d i)
      inside (inr i) = second_in h a b bounds d (k (bounds_under g bounds h) d i)

      go : Has (flat_map (give h) (tuples_below bounds)) d ⊎ Has (copies (bounds_under g bounds h) c ++ copies (bounds_under g bounds h) e) d → Has (copies bounds (Node h a b)) d
      go (inl i) = has_left (flat_map (give h) (tuples_below bounds)) _ d i
      go (inr i) = inside (has_append (copies (bounds_under g bounds h) c) _ d i)

  pub replaced_included : (old new : Tree) (place : ℕ) → Includes old new → (part : runs.Part) (p : ℕ) (b c : Tree) → IsReplaced old new place part p b c → Includes b c
  replaced_included old new place k part p b c here = k
  replaced_included old new place k part p b c (in_continuation {h = h} {a = a} {b = x} {c = y} z) = under h a x a y (stays a) (replaced_included old new place k runs.Process _ x y z)
  replaced_included old new place k part p b c (in_parallel {a = x} {b = d} {c = y} z) = under Par x d y d (replaced_included old new place k runs.Process _ x y z) (stays d)
  replaced_included old new place k part p b c (in_list {a = x} {b = d} {c = y} z) = under Cons x d y d (replaced_included old new place k runs.Process _ x y z) (stays d)
  replaced_included old new place k part p b c (in_find {l = l} {a = x} {b = d} {c = y} z) = under (Find l) x d y d (replaced_included old new place k runs.Branches _ x y z) (stays d)
  replaced_included old new place k part p b c (in_branch {binders = bs} {defined = l} {condition = m} {b = x} {c = y} {more = more} z) =
      under Cons (Node Branch bs (Node Cons l (Node Cons m x))) more (Node Branch bs (Node Cons l (Node Cons m y))) more
      (under Branch bs (Node Cons l (Node Cons m x)) bs (Node Cons l (Node Cons m y)) (stays bs)
      (under Cons l (Node Cons m x) l (Node Cons m y) (stays l)
      (under Cons m x m y (stays m) (replaced_included old new place k runs.Process _ x y z))))
      (stays more)
  replaced_included old new place k part p b c (in_later_branch {a = a} {b = x} {c = y} z) = under Cons a x a y (stays a) (replaced_included old new place k runs.Branches _ x y z)
