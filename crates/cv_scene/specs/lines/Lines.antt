-- Derivations: lines that say that a term is true or that a cell is defined, each by a reason or by cases. The lines inside
-- the two blocks of a line by cases come before it. This profile's own.
use Rattle.std.specs.Prelude.{ℕ, ◌+◌, List, [], ◌∷◌}
use Rattle.cv_syntax_trees.specs.declared.head.Head.TheVariants as head
use Rattle.cv_syntax_trees.specs.Tree.{Tree, Empty, Node}

pub data Statement : Type 0 where
  Holds : (term : Tree) → Statement
  IsDefined : (cell : Tree) → Statement

-- no more lines; a statement by a reason, and lines behind it; a conclusion by cases of a condition, with the blocks where it
-- holds and where it doesn't
pub data Lines : Type 0 where
  End : Lines
  By : Statement → (reason : Tree) → Lines → Lines
  Cases : (condition : Tree) → (first second : Lines) → (conclusion : Tree) → Lines → Lines

-- the lines of a chain; a tree that is no line is one without a reason
unfoldable pub lines_of : Tree → Lines
lines_of Empty = End
lines_of (Node c (Node head.Line t r) rest) = By (Holds t) r (lines_of rest)
lines_of (Node c (Node head.Defined t r) rest) = By (IsDefined t) r (lines_of rest)
lines_of (Node c (Node head.Cases t (Node d first (Node e second u))) rest) = Cases t (lines_of first) (lines_of second) u (lines_of rest)
lines_of (Node c t rest) = By (Holds Empty) Empty (lines_of rest)

-- how many lines there are, those inside blocks too
unfoldable pub count : Lines → ℕ
count End = 0
count (By t r rest) = 1 + count rest
count (Cases c d e t rest) = count d + count e + 1 + count rest

-- what the lines outside blocks say
unfoldable pub statements : Lines → List Statement
statements End = []
statements (By t r rest) = t ∷ statements rest
statements (Cases c d e t rest) = Holds t ∷ statements rest
