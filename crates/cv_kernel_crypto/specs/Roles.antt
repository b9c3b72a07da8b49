-- What a name in a game is to be declared as, as the code has it.
use Rattle.std.specs.Prelude.{ℕ, Bool, true, false, List}
use Rattle.cv_syntax_trees.specs.declared.class.Class.{Class}
use Rattle.cv_syntax_trees.specs.declared.class.Class.TheVariants.{Param}
use Rattle.cv_syntax_trees.specs.declared.head.Head.{Head}
use Rattle.cv_syntax_trees.specs.declared.head.Head.TheVariants.{Binder}
use Rattle.cv_syntax_trees.specs.Declarations.{Declaration}
use Rattle.cv_steps_laws.specs.crypto.Sorts.{is_parameter, is_type}
use Rattle.cv_kernel_crypto.specs.declared.sorts.Role.{Role}
use Rattle.cv_kernel_crypto.specs.declared.sorts.Role.TheVariants.{OfParameter, OfType}

abbrev pub is_parameter_class : Class → Bool
is_parameter_class Param = true
is_parameter_class c = false

abbrev pub is_of : List Declaration → Role → ℕ → Bool
is_of ds OfType x = is_type ds x
is_of ds OfParameter x = is_parameter ds x

-- what a binder of a list names
abbrev pub binds_one : (ℕ → Bool) → Head → Bool
binds_one is (Binder x T) = is T
binds_one is h = true
