-- The names that a file declares.
use Rattle.std.specs.Prelude.{◌≡◌, ℕ, Bool, false, ◌==◌, List, [], ◌∷◌, ◌++◌, flat_map}
use Rattle.std.specs.List.{list_any}
use Rattle.cv_syntax_trees.specs.Declarations.{Declaration, Named, Equation, Equiv, Query}
use Rattle.cv_parse_notation.specs.Spells.{Use}
use Rattle.cv_parse_grammar.specs.declared.role.Role.{Role}
use Rattle.cv_parse_grammar.specs.declared.role.Role.TheVariants.{Declares}
use Rattle.cv_parse_grammar.specs.Names.{Uses}

-- what a use of a name declares
abbrev pub declared_as : Role → ℕ → List ℕ
declared_as (Declares a) x = x ∷ []
declared_as r x = []

abbrev pub declared_by : Use Role → List ℕ
declared_by u = declared_as u.role u.name

abbrev pub declared_in : Uses → List ℕ
declared_in us = flat_map declared_by us

-- the name of a declaration, where it has one
abbrev pub id_of : Declaration → List ℕ
id_of (Named id class arguments result) = id ∷ []
id_of (Equation t) = []
id_of (Equiv id t) = id ∷ []
id_of (Query t) = []

abbrev pub ids_of : List Declaration → List ℕ
ids_of ds = flat_map id_of ds

abbrev pub is_among : List ℕ → ℕ → Bool
is_among xs x = list_any (λ y. y == x) xs

-- no number stands there twice
abbrev pub AreDistinct : List ℕ → Type 0
AreDistinct xs = (before : List ℕ) (x : ℕ) (behind : List ℕ) → xs ≡ before ++ x ∷ behind → is_among before x ≡ false
