-- Terms of the second copy of a pair. A mark behind an index is made plain by a number that is added to its name, so that no name of the
-- file, of the game or of the certificate is met. This profile's own.
use Rattle.std.specs.Prelude.{ℕ, zero, suc, ◌+◌, max, List, [], ◌∷◌}
use Rattle.cv_syntax_trees.specs.declared.head.Head.{Head}
use Rattle.cv_syntax_trees.specs.declared.head.Head.TheVariants.{Binder, Call, Key, Leaf, Let, Name, New, Primed, Read, Repl}
use Rattle.cv_syntax_trees.specs.Declarations.{Declaration, Named}
use Rattle.cv_syntax_trees.specs.Tree.{Tree, Empty, Node}
use Rattle.cv_scene.specs.Scenes.{Scene}

-- the first number above the name of a variable or of an index that a node has
abbrev pub head_end : Head → ℕ
head_end (Repl i n) = suc i
head_end (Name x) = suc x
head_end (New x T) = suc x
head_end (Let x T) = suc x
head_end (Binder x T) = suc x
head_end (Leaf x) = suc x
head_end (Primed i) = suc i
head_end (Read x) = suc x
head_end (Key x) = suc x
head_end (Call x l) = suc x
head_end h = zero

-- the first number above all of them in a tree
unfoldable pub names_end : Tree → ℕ
names_end Empty = zero
names_end (Node h a b) = max (head_end h) (max (names_end a) (names_end b))

-- the first number above the names that are declared
abbrev pub declared_end : List Declaration → ℕ
declared_end [] = zero
declared_end (Named x c arguments result ∷ ds) = max (suc x) (declared_end ds)
declared_end (d ∷ ds) = declared_end ds

-- What is added to the names of the second copy, in a certificate for a game: a raised name is none of the declarations, of the game or of
-- the certificate.
abbrev pub raise_of : Scene → (certificate : Tree) → ℕ
raise_of s certificate = max (declared_end s.declarations) (max (names_end s.game) (names_end certificate))

abbrev pub plain_head : (k : ℕ) → Head → Head
plain_head k (Primed i) = Leaf (i + k)
plain_head k h = h

-- a tree whose marked names are raised
unfoldable pub plain : (k : ℕ) → Tree → Tree
plain k Empty = Empty
plain k (Node h a b) = Node (plain_head k h) (plain k a) (plain k b)
