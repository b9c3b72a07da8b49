-- Whether the types and parameters that a game names are declared. This profile's own.
use Rattle.std.specs.Prelude.{ℕ, Bool, true, false, ◌&&◌, ◌||◌, ◌==◌, List, Option, Some}
use Rattle.cv_syntax_trees.specs.declared.class.Class.TheVariants as class
use Rattle.cv_syntax_trees.specs.declared.head.Head.{Head}
use Rattle.cv_syntax_trees.specs.declared.head.Head.TheVariants.{Binder, Branch, In, Let, New, Repl}
use Rattle.cv_syntax_trees.specs.Declarations.{Declaration, Named}
use Rattle.cv_syntax_trees.specs.Tree.{Tree, Empty, Node, second}
use Rattle.cv_scope_rules.specs.typing.Signature.{declaration_of}
use Rattle.cv_scene.specs.Scenes.{is_type_by}

-- `bool` is the type 0
abbrev pub is_type : List Declaration → ℕ → Bool
is_type ds T = (T == 0) || is_type_by (declaration_of ds T)

abbrev pub is_parameter_by : Option Declaration → Bool
is_parameter_by (Some (Named n class.Param arguments result)) = true
is_parameter_by d = false

abbrev pub is_parameter : List Declaration → ℕ → Bool
is_parameter ds n = is_parameter_by (declaration_of ds n)

-- of each binder of a list
unfoldable pub are_declared : (ℕ → Bool) → Tree → Bool
are_declared is Empty = true
are_declared is (Node (Binder x T) a b) = is T && are_declared is b
are_declared is (Node h a b) = are_declared is b

-- those that a node names
abbrev pub names_declared : List Declaration → Head → Tree → Bool
names_declared ds (Repl i n) a = is_parameter ds n
names_declared ds (New x T) a = is_type ds T
names_declared ds (Let x T) a = is_type ds T
names_declared ds (In c) a = are_declared (is_type ds) (second a)
names_declared ds Branch a = are_declared (is_parameter ds) a
names_declared ds h a = true

unfoldable pub has_declared_sorts : List Declaration → Tree → Bool
has_declared_sorts ds Empty = true
has_declared_sorts ds (Node h a b) = names_declared ds h a && (has_declared_sorts ds a && has_declared_sorts ds b)
