-- What a file declares that a body may name: its functions, and of these the constants.
use Rattle.std.specs.Prelude.{ℕ, Bool, false, ◌||◌, ◌==◌, List, [], ◌∷◌}
use Rattle.cv_syntax_trees.specs.declared.class.Class.TheVariants as class
use Rattle.cv_syntax_trees.specs.Declarations.{Declaration, Named}
use Rattle.cv_meaning.specs.Interpretation.{is_constant_of}

pub record Symbols : Type 0 where
  pub constant : ℕ → Bool  -- is read where it stands alone
  pub function : ℕ → Bool  -- may be called

-- a constant is a function without arguments; that each call has as many arguments as are declared is a rule of types
abbrev pub is_function_of : List Declaration → ℕ → Bool
is_function_of [] x = false
is_function_of (Named y (class.Fun data_like) arguments result ∷ more) x = (y == x) || is_function_of more x
is_function_of (d ∷ more) x = is_function_of more x

abbrev pub symbols_of : List Declaration → Symbols
symbols_of declarations = record { constant = is_constant_of declarations; function = is_function_of declarations }
