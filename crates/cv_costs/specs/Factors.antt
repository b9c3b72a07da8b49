-- Products of parameters: each parameter stands once, with its exponent, in the order of the declarations. This profile's own.
use Rattle.std.specs.Prelude.{ℕ, ◌+◌, Bool, true, false, ◌==◌, if◌then◌else◌, List, [], ◌∷◌}
use Rattle.std.specs.List.{flat_map}
use Rattle.cv_pool.specs.declared.names.names.NameId.{NameId}
use Rattle.cv_syntax_trees.specs.declared.class.Class.TheVariants as class
use Rattle.cv_syntax.specs.declared.decls.Decl.{Decl}
use Rattle.cv_syntax.specs.declared.decls.Decl.TheVariants as decl

-- the parameter that a declaration declares
abbrev pub parameter_in : Decl → List ℕ
parameter_in (decl.Name id class.Param args result) = id.0 ∷ []
parameter_in d = []

-- the parameters that are declared, in order
abbrev pub parameters_in : List Decl → List ℕ
parameters_in ds = flat_map parameter_in ds

-- whether a parameter stands before another one in the order
abbrev pub is_before : (order : List ℕ) → ℕ → ℕ → Bool
is_before [] n m = false
is_before (p ∷ ps) n m = if p == n then true else if p == m then false else is_before ps n m

-- a parameter as a factor
abbrev pub factor : ℕ → NameId × ℕ
factor n = (record { 0 = n }, 1)

-- the factors with a parameter more, put before those that are declared behind it
unfoldable pub with_parameter : (order : List ℕ) → ℕ → List (NameId × ℕ) → List (NameId × ℕ)
with_parameter order n [] = factor n ∷ []
with_parameter order n (f ∷ fs) =
    if n == f.0.0 then (f.0, f.1 + 1) ∷ fs
    else if is_before order n f.0.0 then factor n ∷ f ∷ fs
    else f ∷ with_parameter order n fs

-- the factors of a product of parameters
abbrev pub factors_of : (order : List ℕ) → List ℕ → List (NameId × ℕ)
factors_of order [] = []
factors_of order (n ∷ ns) = with_parameter order n (factors_of order ns)
