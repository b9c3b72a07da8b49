-- What the next game is to leave of the queries of secrecy. What a query asks for is a variable with values of a type, or nothing in the
-- game has its name any more: a step may have taken away all its sites, and then no value is left to tell from a random one. This
-- profile's own.
use Rattle.std.specs.Prelude.{ℕ, Bool, false, ◌&&◌, not, List}
use Rattle.std.specs.List.{list_any}
use Rattle.cv_syntax_trees.specs.declared.head.Head.TheVariants.{Secret, SecretOnce}
use Rattle.cv_syntax_trees.specs.Tree.{Tree, Node}
use Rattle.cv_query_form.specs.Tests.{has_values}
use Rattle.cv_scene.specs.Scenes.{names}

-- the game has the name, but not as that of a variable with values of a type
abbrev pub is_without_values : (game : Tree) → (x : ℕ) → Bool
is_without_values game x = not (has_values game x) && names x game

-- a query asks for the secrecy of such a name
abbrev pub asks_without_values : (game query : Tree) → Bool
asks_without_values game (Node (Secret x) a b) = is_without_values game x
asks_without_values game (Node (SecretOnce x) a b) = is_without_values game x
asks_without_values game query = false

abbrev pub some_asks_without_values : (game : Tree) → (queries : List Tree) → Bool
some_asks_without_values game queries = list_any (asks_without_values game) queries
