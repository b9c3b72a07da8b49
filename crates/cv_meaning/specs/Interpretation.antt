-- Interpretations of types, parameters and functions (Blanchet, TDSC 2008, section 2), and the setting
-- of a run. That the choice among the candidates of a find has a range is this profile's own.
use Rattle.std.specs.Prelude.{ℕ, Bool, false, ◌||◌, ◌==◌, List, [], ◌∷◌}
use Rattle.cv_syntax_trees.specs.Tree.{Empty}
use Rattle.cv_syntax_trees.specs.Declarations.{Declaration, Named}
use Rattle.cv_syntax_trees.specs.declared.class.Class.TheVariants as class
use Rattle.cv_meaning.specs.Side.{Side, no_side}

pub record Interpretation : Type 0 where
  pub type_size : ℕ → ℕ  -- how many values a type has
  pub parameter_value : ℕ → ℕ
  pub table : ℕ → List ℕ → ℕ  -- the values of a function
  pub choices : ℕ  -- the range of the cells by which a find chooses among its candidates

-- an interpretation, what the declarations say of names, and what answers calls
pub record Setting : Type 0 where
  pub interpretation : Interpretation
  pub is_constant : ℕ → Bool
  pub side : Side

-- a constant is a function without arguments
abbrev pub is_constant_of : List Declaration → ℕ → Bool
is_constant_of [] x = false
is_constant_of (Named y (class.Fun data_like) Empty result ∷ more) x = (y == x) || is_constant_of more x
is_constant_of (d ∷ more) x = is_constant_of more x

-- the setting of the contexts of a file, with what answers their calls
abbrev pub setting_with : List Declaration → Interpretation → Side → Setting
setting_with declarations i side = record { interpretation = i; is_constant = is_constant_of declarations; side = side }

-- the setting of the games of a file
abbrev pub setting_of : List Declaration → Interpretation → Setting
setting_of declarations i = setting_with declarations i no_side
