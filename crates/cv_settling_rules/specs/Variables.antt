-- The variables of a game, in the order of their first definitions, and how often each is read. This profile's own.
use Rattle.std.specs.Prelude.{ℕ, ◌+◌, Bool, false, ◌==◌, if◌then◌else◌, List, [], ◌∷◌, ◌++◌, is_some}
use Rattle.std.specs.List.{list_any}
use Rattle.cv_syntax_trees.specs.declared.head.Head.{Head}
use Rattle.cv_syntax_trees.specs.declared.head.Head.TheVariants.{Branch, In, Let, New}
use Rattle.cv_syntax_trees.specs.Tree.{Tree, Empty, Node, bound_names, second}
use Rattle.cv_scope_rules.specs.Context.{first_position, second_position}
use Rattle.cv_scope_rules.specs.declared.position.Position.{Position}
use Rattle.cv_scope_rules.specs.declared.position.Position.TheVariants.{Anywhere, OneCell}
use Rattle.cv_scene.specs.Refusals.{first_in_condition}
use Rattle.cv_scene.specs.Scenes.{head_reads}

-- those that a node defines, with its first child: an input and a branch define what they bind
abbrev pub defined_by : Head → (first : Tree) → List ℕ
defined_by (New x T) a = x ∷ []
defined_by (Let x T) a = x ∷ []
defined_by (In c) a = bound_names (second a)
defined_by Branch a = bound_names a
defined_by h a = []

-- those of a tree, each as often as it is defined
unfoldable pub definitions_in : Tree → List ℕ
definitions_in Empty = []
definitions_in (Node h a b) = defined_by h a ++ (definitions_in a ++ definitions_in b)

-- the names of a list but those of another one, each once, where it stands first
abbrev pub once_each : (others : List ℕ) → List ℕ → List ℕ
once_each ys [] = []
once_each ys (x ∷ xs) = if list_any (λ y. y == x) ys then once_each ys xs else x ∷ once_each (x ∷ ys) xs

abbrev pub variables : (game : Tree) → List ℕ
variables game = once_each [] (definitions_in game)

-- a cell of a `defined` list isn't read, but its indices are
abbrev pub is_read_here : ℕ → Position → Head → Bool
is_read_here x OneCell h = false
is_read_here x w h = head_reads x h

-- how many nodes of a tree read a variable
unfoldable pub reads_in : ℕ → Position → Tree → ℕ
reads_in x w Empty = 0
reads_in x w (Node h a b) =
    (if is_read_here x w h then 1 else 0) + (reads_in x (first_position w h) a + reads_in x (second_position w h) b)

abbrev pub reads_of : (game : Tree) → ℕ → ℕ
reads_of game x = reads_in x Anywhere game

-- a condition of a `find` reads it
abbrev pub is_tested : (game : Tree) → ℕ → Bool
is_tested game x = is_some (first_in_condition x Anywhere 0 game)
