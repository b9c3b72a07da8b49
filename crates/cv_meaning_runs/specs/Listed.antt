-- When the list of cells of an experiment has each cell that a run consults. This profile's own.
use Rattle.std.specs.Prelude.{◌≡◌, ℕ, Bool, true, false, ◌&&◌, not, ◌==◌}
use Rattle.std.specs.List.{AllByRecursion}
use Rattle.cv_syntax_trees.specs.declared.head.Head.{Head}
use Rattle.cv_syntax_trees.specs.declared.head.Head.TheVariants.{Repl, In, Key, Call}
use Rattle.cv_syntax_trees.specs.Tree.{Tree, Empty, Node}
use Rattle.cv_meaning.specs.Tapes.{Tape, is_in}
use Rattle.cv_meaning.specs.Interpretation.{Setting}
use Rattle.cv_meaning.specs.Consulted.{is_key}
use Rattle.cv_meaning.specs.Runs.{Mode, Random, Adversary}
use Rattle.cv_meaning.specs.Cells.{cells}
use Rattle.cv_meaning_runs.specs.Moments.{cells_of_run}

-- no key and no call binds the variable, since these have no type, and the pattern of an input holds no
-- replication
abbrev pub head_is_testable : ℕ → Head → Tree → Bool
head_is_testable x (Key y) a = not (y == x)
head_is_testable x (Call y l) a = not (y == x)
head_is_testable x (In c) (Node (Repl i n) a b) = false
head_is_testable x h a = true

-- the same of each node of the tree
abbrev pub is_testable : ℕ → Tree → Bool
is_testable x Empty = true
is_testable x (Node h a b) = head_is_testable x h a && (is_testable x a && is_testable x b)

-- tests of random values are of a variable that can be tested in the game
abbrev pub IsTestable : Mode → Tree → Type 0
IsTestable (Random one x) game = is_testable x game ≡ true
IsTestable m game = Unit {0}

-- each key that the run consults is in the list
abbrev pub AreKeysListed : Setting → Mode → Adversary → Tree → Tape → Type 0
AreKeysListed g m a game t = AllByRecursion (λ c. is_key c ≡ true → is_in (cells g m a game) c ≡ true) (cells_of_run g m a game t)

-- the head is not of a call
abbrev pub head_is_no_call : Head → Bool
head_is_no_call (Call x l) = false
head_is_no_call h = true

-- the tree of a game, in which no calls stand
abbrev pub has_no_calls : Tree → Bool
has_no_calls Empty = true
has_no_calls (Node h a b) = head_is_no_call h && (has_no_calls a && has_no_calls b)
