-- Choices of a type in a game: `new` may choose of a type that is `[fixed]` alone. Blanchet, TDSC 2008, section 2.
use Rattle.std.specs.Prelude.{ℕ, Bool, false, ◌||◌}
use Rattle.cv_syntax_trees.specs.Tree.{Tree, Empty, Node}
use Rattle.cv_strategy_rules.specs.Moves.{chooses}

-- a node of the tree is a `new` of the type
unfoldable pub has_choice_of : (type : ℕ) → Tree → Bool
has_choice_of T Empty = false
has_choice_of T (Node h a b) = chooses T h || (has_choice_of T a || has_choice_of T b)
