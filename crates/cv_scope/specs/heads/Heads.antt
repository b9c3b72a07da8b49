-- Heads that define a variable by themselves.
use Rattle.std.specs.Prelude.{ℕ, Option, Some, None}
use Rattle.cv_syntax_trees.specs.declared.head.Head.{Head}
use Rattle.cv_syntax_trees.specs.declared.head.Head.TheVariants.{New, Let, Key, Call}

-- the variable that a node with this head defines by itself
abbrev pub variable_of : Head → Option ℕ
variable_of (New x T) = Some x
variable_of (Let x T) = Some x
variable_of (Key x) = Some x
variable_of (Call x l) = Some x
variable_of h = None
