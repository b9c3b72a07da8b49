-- Which variables of a query stand on the right alone, as a sentence. Blanchet, CSF 2007.
use Rattle.std.specs.Prelude.{◌≡◌, ℕ, ◌⊎◌, Contains}
use Rattle.cv_syntax_trees.specs.declared.head.Head.{Head}
use Rattle.cv_syntax_trees.specs.declared.head.Head.TheVariants.{Leaf, Read}
use Rattle.cv_syntax_trees.specs.Tree.{Tree, Empty, Node, first, second}
use Rattle.cv_meaning.specs.Correspondences.{typed_names, correspondence_of}

abbrev pub HeadReads : Head → ℕ → Type 0
HeadReads (Leaf y) x = y ≡ x
HeadReads (Read y) x = y ≡ x
HeadReads _ x = ⊥

-- some node of the tree reads the variable
abbrev pub IsReadIn : Tree → ℕ → Type 0
IsReadIn Empty x = ⊥
IsReadIn (Node h a b) x = HeadReads h x ⊎ (IsReadIn a x ⊎ IsReadIn b x)

-- the query binds the variable with this type, an atom reads it, and it is no argument of the left event
pub record IsOnTheRightAlone (q : Tree) (x : ℕ × ℕ) : Type 0 where
  pub bound : Contains (typed_names (first q)) x
  pub is_read : IsReadIn (second (second q)) x.0
  pub not_left : ¬ Contains (correspondence_of q).variables x.0
