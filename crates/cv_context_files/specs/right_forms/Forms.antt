-- What the grammar gives of the right side of an equivalence whose branches have one index: one key, and functions for which nothing is
-- chosen besides their bodies, which are of the grammar. This profile's own.
use Rattle.std.specs.Prelude.{◌≡◌, true, []}
use Rattle.std.specs.List.{AllByRecursion}
use Rattle.cv_syntax_trees.specs.Tree.{Tree, second}
use Rattle.cv_meaning.specs.contexts.Groups.{Function, Right, side_group}
use Rattle.cv_inline_names_laws.specs.accepted.RightBodies.{is_right_side}
use Rattle.cv_inline_names_laws.specs.cells.Layout.{is_right_text}

-- a right function but for the types of its names
pub record IsWrittenFunction (f : Function) : Type 0 where
  pub coins : f.coins ≡ []
  pub body : is_right_text f.body ≡ true

pub record HasRightForm (equivalence : Tree) : Type 0 where
  pub side : is_right_side (second equivalence) ≡ true
  pub functions : AllByRecursion IsWrittenFunction (side_group Right equivalence).functions
