-- Names for the answers of a context's calls: the numbers above all names of file and game. So the context of a step is a function
-- of the game and of the step. This profile's own.
use Rattle.std.specs.Prelude.{◌≡◌, ℕ, suc, ◌+◌, true, max, nat_lt, List}
use Rattle.cv_syntax_trees.specs.declared.head.Head.{Head}
use Rattle.cv_syntax_trees.specs.declared.head.Head.TheVariants.{Binder, Call, Key, Leaf, Let, Name, New, Read, Repl}
use Rattle.cv_syntax_trees.specs.Declarations.{Declaration}
use Rattle.cv_syntax_trees.specs.Tree.{Tree, Empty, Node}
use Rattle.cv_meaning.specs.Interpretation.{is_constant_of}
use Rattle.cv_scene.specs.Scenes.{Scene}

-- a game of a file whose names are the first ones
abbrev pub file_scene : List Declaration → (own : ℕ) → Tree → Scene
file_scene ds own game = record { declarations = ds; known = λ x. nat_lt x own; game = game }

-- the file has the names of its constants
abbrev pub KnowsConstants : Scene → Type 0
KnowsConstants s = (x : ℕ) → is_constant_of s.declarations x ≡ true → s.known x ≡ true

-- one more than the greatest name of a variable or of an index, at a node and in a tree

abbrev pub above_head : Head → ℕ
above_head (Repl i n) = suc i
above_head (Name i) = suc i
above_head (New x T) = suc x
above_head (Let x T) = suc x
above_head (Binder x T) = suc x
above_head (Leaf x) = suc x
above_head (Read x) = suc x
above_head (Key x) = suc x
above_head (Call x l) = suc x
above_head h = 0

unfoldable pub above_names : Tree → ℕ
above_names Empty = 0
above_names (Node h a b) = max (above_head h) (max (above_names a) (above_names b))

-- the answer of a site, by its number
abbrev pub answer_above : (own : ℕ) → (game : Tree) → (site : ℕ) → ℕ
answer_above own game site = max own (above_names game) + site
