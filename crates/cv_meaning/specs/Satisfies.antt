-- When an interpretation satisfies the declarations of a file. Nothing is asked of equivalences.
-- Blanchet, TDSC 2008, section 2, for types and functions; the sizes are this profile's own.
use Rattle.std.specs.Prelude.{◌≡◌, ℕ, ◌<◌, ◌≤◌, Bool, true, false, List, Option, Some, None, zip}
use Rattle.std.specs.List.{AllByRecursion}
use Rattle.cv_syntax_trees.specs.declared.class.Class.{Class}
use Rattle.cv_syntax_trees.specs.declared.class.Class.TheVariants as class
use Rattle.cv_syntax_trees.specs.declared.head.Head.TheVariants.{Forall}
use Rattle.cv_syntax_trees.specs.Tree.{Tree, Node}
use Rattle.cv_syntax_trees.specs.Declarations.{Declaration, Named, Equation}
use Rattle.cv_meaning.specs.Interpretation.{Interpretation, Setting, setting_of}
use Rattle.cv_meaning.specs.Memory.{nowhere}
use Rattle.cv_meaning.specs.Terms.{value}
use Rattle.cv_meaning.specs.Binders.{bound_names, fits, fits_types}

-- arguments within range give a result within range
abbrev pub IsTotal : Interpretation → ℕ → Tree → Option ℕ → Type 0
IsTotal i f arguments None = Unit {0}
IsTotal i f arguments (Some T) = (vs : List ℕ) → fits_types i.type_size arguments vs ≡ true → i.table f vs < i.type_size T

-- different arguments within range give different results
abbrev pub IsInjective : Interpretation → ℕ → Tree → Type 0
IsInjective i f arguments =
    (us vs : List ℕ) → fits_types i.type_size arguments us ≡ true → fits_types i.type_size arguments vs ≡ true → i.table f us ≡ i.table f vs → us ≡ vs

-- what `[data]` asks of a function
abbrev pub IfDataLike : Bool → Type 0 → Type 0
IfDataLike true P = P
IfDataLike false P = Unit {0}

abbrev pub NameHolds : Interpretation → ℕ → Class → Tree → Option ℕ → Type 0
NameHolds i x class.Param arguments result = 1 ≤ i.parameter_value x
NameHolds i x (class.TypeName fixed large) arguments result = 1 ≤ i.type_size x
NameHolds i x (class.Fun data_like) arguments result = IsTotal i x arguments result × IfDataLike data_like (IsInjective i x arguments)
NameHolds i x _ arguments result = Unit {0}

-- the term is true for all values of its variables
abbrev pub EquationHolds : Setting → Tree → Type 0
EquationHolds g (Node Forall bs m) = (vs : List ℕ) → fits g.interpretation.type_size bs vs ≡ true → value g (zip (bound_names bs) vs) nowhere m ≡ 1
EquationHolds g _ = Unit {0}

abbrev pub DeclarationHolds : Setting → Declaration → Type 0
DeclarationHolds g (Named x named arguments result) = NameHolds g.interpretation x named arguments result
DeclarationHolds g (Equation e) = EquationHolds g e
DeclarationHolds g _ = Unit {0}

-- the name `bool` is number 0
pub record Satisfies (declarations : List Declaration) (i : Interpretation) : Type 0 where
  pub choices : 1 ≤ i.choices
  pub bool : i.type_size 0 ≡ 2
  pub each : AllByRecursion (DeclarationHolds (setting_of declarations i)) declarations
