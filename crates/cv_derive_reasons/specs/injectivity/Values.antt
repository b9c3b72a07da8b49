-- Values of functions with `[data]`.
use Rattle.std.specs.Prelude.{ℕ, Bool, false, ◌&&◌, ◌==◌, List}
use Rattle.cv_syntax_trees.specs.declared.head.Head.TheVariants.{Apply}
use Rattle.cv_syntax_trees.specs.Declarations.{Declaration}
use Rattle.cv_syntax_trees.specs.Tree.{Tree, Node, same_tree}
use Rattle.cv_scope_rules.specs.typing.Signature.{declaration_of}
use Rattle.cv_scope_rules.specs.Context.{items}
use Rattle.cv_scene.specs.lines.Inferences.{equations_of}
use Rattle.cv_scene.specs.Reasons.{is_data_by}

-- two values of one function, and a term that says that its arguments are equal
abbrev pub are_values_by : List Declaration → (left right term : Tree) → Bool
are_values_by ds (Node (Apply f) a b) (Node (Apply g) c d) e = (f == g) && (is_data_by (declaration_of ds f) && same_tree e (equations_of (items a) (items c)))
are_values_by ds m n e = false
