-- Ends of names, and names of a list, as the code has them.
use Rattle.std.specs.Prelude.{ℕ, ◌+◌, Option, Some, None}
use Rattle.cv_syntax_trees.specs.declared.head.Head.TheVariants.{Name}
use Rattle.cv_syntax_trees.specs.Tree.{Tree, Node}
use Rattle.cv_syntax.specs.declared.decls.Decl.{Decl}
use Rattle.cv_syntax.specs.declared.decls.Decl.TheVariants as decl

-- the first number above the name that a declaration has
abbrev pub end_by : Option Decl → ℕ
end_by (Some (decl.Name id class args result)) = id.0 + 1
end_by d = 0

-- the name of a variable
abbrev pub name_by : Tree → Option ℕ
name_by (Node (Name x) a b) = Some x
name_by t = None
