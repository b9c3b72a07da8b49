-- The names of a file and of its game, which a drawn name may not have. This profile's own.
use Rattle.std.specs.Prelude.{ℕ, List, [], ◌∷◌, ◌++◌}
use Rattle.cv_syntax_trees.specs.declared.head.Head.{Head}
use Rattle.cv_syntax_trees.specs.declared.head.Head.TheVariants.{Binder, Call, Key, Leaf, Let, Name, New, Read, Repl}
use Rattle.cv_syntax_trees.specs.Tree.{Tree, Empty, Node}
use Rattle.cv_meaning.specs.Candidates.{below}

-- the name of a node's variable or index
abbrev pub names_at : Head → List ℕ
names_at (Repl i n) = i ∷ []
names_at (Name i) = i ∷ []
names_at (New x T) = x ∷ []
names_at (Let x T) = x ∷ []
names_at (Binder x T) = x ∷ []
names_at (Leaf x) = x ∷ []
names_at (Read x) = x ∷ []
names_at (Key x) = x ∷ []
names_at (Call x l) = x ∷ []
names_at h = []

-- the names of a tree, in the order of its text
unfoldable pub names_in : Tree → List ℕ
names_in Empty = []
names_in (Node h a b) = names_at h ++ (names_in a ++ names_in b)

-- those of a file, which has the first ones, and of a game
abbrev pub taken_names : (own : ℕ) → (game : Tree) → List ℕ
taken_names own game = below own ++ names_in game
