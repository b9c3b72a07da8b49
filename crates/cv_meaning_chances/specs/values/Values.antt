-- Games of which each choice, and each test that an experiment makes, has a value.
use Rattle.std.specs.Prelude.{◌≡◌, ℕ, ◌<◌, Bool, true, false, ◌==◌}
use Rattle.cv_syntax_trees.specs.declared.head.Head.{Head}
use Rattle.cv_syntax_trees.specs.declared.head.Head.TheVariants.{Binder}
use Rattle.cv_syntax_trees.specs.Tree.{Tree, Empty, Node}
use Rattle.cv_meaning.specs.Interpretation.{Setting}
use Rattle.cv_meaning.specs.Runs.{Mode, Events, Real, Random}
use Rattle.cv_meaning_chances.specs.Choices.{HeadHasValues}

-- the values of the variable are tested
abbrev pub is_tested : Mode → ℕ → Bool
is_tested Events y = false
is_tested (Real one x) y = y == x
is_tested (Random one x) y = y == x

-- a construct has a value for each choice and test; a variable that isn't tested may be an index
abbrev pub ConstructHasValues : Setting → Mode → Head → Type 0
ConstructHasValues g m (Binder y T) = is_tested m y ≡ true → 0 < g.interpretation.type_size T
ConstructHasValues g m h = HeadHasValues g h

-- so has each construct of a tree
unfoldable pub HasValuesIn : Setting → Mode → Tree → Type 0
HasValuesIn g m Empty = Unit {0}
HasValuesIn g m (Node h a b) = ConstructHasValues g m h × HasValuesIn g m a × HasValuesIn g m b
