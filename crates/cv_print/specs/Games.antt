-- The text of processes: each construct on its own line, with two spaces for each level.
use Rattle.std.specs.Prelude.{ℕ, ◌+◌, ◌*◌, List, [], ◌++◌, replicate, codes, if◌then◌else◌}
use Rattle.std.specs.Fmt.{decimal}
use Rattle.cv_syntax_trees.specs.Tree.{Tree, Empty, Node, first, second}
use Rattle.cv_syntax_trees.specs.declared.head.Head.{Head}
use Rattle.cv_syntax_trees.specs.declared.head.Head.TheVariants.{Stop, Yield, Par, Repl, In, Out, Event, New, Let, If, Find}
use Rattle.cv_syntax_trees.specs.Children.{is_empty}
use Rattle.cv_print.specs.Terms.{name_text, binder_text, entries_text, term_text, terms_text}

abbrev pub line : ℕ → List ℕ → List ℕ
line level text = replicate (2 * level) 32 ++ text ++ codes "\n"

-- a channel at indices
abbrev pub channel_text : List (List ℕ) → ℕ → Tree → List ℕ
channel_text names c indices = name_text names c ++ (if is_empty indices then [] else codes "[" ++ entries_text names [] [] indices ++ codes "]")

-- the arguments of an event
abbrev pub arguments_text : List (List ℕ) → Tree → List ℕ
arguments_text names terms = if is_empty terms then [] else codes "(" ++ terms_text names [] terms ++ codes ")"

-- the indices of a branch
abbrev pub indices_text : List (List ℕ) → Tree → List ℕ
indices_text names indices = if is_empty indices then [] else codes " " ++ entries_text names (codes " <= ") [] indices

-- cells that have to be defined
abbrev pub cells_text : List (List ℕ) → Tree → List ℕ
cells_text names cells = if is_empty cells then [] else codes "defined(" ++ terms_text names [] cells ++ codes ") && "

-- the line of a construct whose continuation stays at its level, by its head and its first child
abbrev pub step_text : List (List ℕ) → ℕ → Head → Tree → List ℕ
step_text names level Stop a = line level (codes "0")
step_text names level Yield a = line level (codes "yield")
step_text names level (In c) a = line level (codes "in(" ++ channel_text names c (first a) ++ codes ", (" ++ entries_text names (codes ": ") [] (second a) ++ codes "));")
step_text names level (Out c) a = line level (codes "out(" ++ channel_text names c (first a) ++ codes ", (" ++ terms_text names [] (second a) ++ codes "));")
step_text names level (Event e) a = line level (codes "event " ++ name_text names e ++ arguments_text names a ++ codes ";")
step_text names level (New x T) a = line level (codes "new " ++ binder_text names (codes ": ") x T ++ codes ";")
step_text names level (Let x T) a = line level (codes "let " ++ binder_text names (codes ": ") x T ++ codes " = " ++ term_text names a ++ codes " in")
step_text names level _ a = []

-- the line of a branch, by its indices, its cells and its term
abbrev pub branch_line : List (List ℕ) → ℕ → List ℕ → Tree → Tree → Tree → List ℕ
branch_line names level word indices cells term = line level (word ++ indices_text names indices ++ codes " suchthat " ++ cells_text names cells ++ term_text names term ++ codes " then")

unfoldable mutual
  pub process_text : List (List ℕ) → ℕ → Tree → List ℕ
  process_text names level Empty = []
  process_text names level (Node Par a b) = line level (codes "(") ++ process_text names (level + 1) a ++ line level (codes "|") ++ process_text names (level + 1) b ++ line level (codes ")")
  process_text names level (Node (Repl i n) a b) = line level (codes "!" ++ binder_text names (codes " <= ") i n) ++ process_text names (level + 1) b
  process_text names level (Node If a b) = line level (codes "if " ++ term_text names a ++ codes " then") ++ bodies_text names level [] b
  process_text names level (Node (Find l) a b) = branches_text names level (codes "find @" ++ decimal l) a ++ line level (codes "else") ++ process_text names (level + 1) b
  process_text names level (Node h a b) = step_text names level h a ++ process_text names level b

  -- the two bodies of an `if`: nothing stands before the first, and a line `else` before the other
  pub bodies_text : List (List ℕ) → ℕ → List ℕ → Tree → List ℕ
  bodies_text names level before Empty = []
  bodies_text names level before (Node h a b) = before ++ process_text names (level + 1) a ++ bodies_text names level (line level (codes "else")) b

  -- branches: the first begins with a given word, each further one with `orfind`
  pub branches_text : List (List ℕ) → ℕ → List ℕ → Tree → List ℕ
  branches_text names level word Empty = []
  branches_text names level word (Node h a b) = branch_text names level word a ++ branches_text names level (codes "orfind") b

  pub branch_text : List (List ℕ) → ℕ → List ℕ → Tree → List ℕ
  branch_text names level word (Node h indices (Node i cells (Node j term body))) = branch_line names level word indices cells term ++ process_text names (level + 1) body
  branch_text names level word _ = []

-- the lines of a game
abbrev pub game_text : List (List ℕ) → Tree → List ℕ
game_text names t = process_text names 0 t
