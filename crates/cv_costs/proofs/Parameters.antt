-- The parameters of a file, and how many factors a product of some has.
use Rattle.std.proofs.Common.{◌≡◌, ℕ, ◌+◌, ◌≤◌, Bool, true, false, cond, List, [], ◌∷◌, ◌++◌, length, refl, ap₂, arith}
use Rattle.std.specs.Prelude.{◌==◌}
use Rattle.cv_pool.specs.declared.names.names.NameId.{NameId}
use Rattle.cv_pool.specs.KindTree.{KindTree}
use Rattle.cv_syntax_trees.specs.declared.class.Class.TheVariants as class
use Rattle.cv_syntax.specs.Declarations.{declarations, declared}
use Rattle.cv_syntax.specs.declared.decls.Decl.{Decl}
use Rattle.cv_syntax.specs.declared.decls.Decl.TheVariants as decl
use Rattle.cv_costs.specs.Collisions.{declared_parameters, parameter_of}
use Rattle.cv_costs.specs.Factors.{factor, factors_of, is_before, parameter_in, parameters_in, with_parameter}

-- the parameters of a file are those that its declarations declare

one_parameter : (trees : List KindTree) (d : Decl) → parameter_of (declared trees d) ≡ parameter_in d
one_parameter trees (decl.Name id class.Param args result) = refl
one_parameter trees (decl.Name id c args result) = refl
one_parameter trees d = refl

pub same_parameters : (trees : List KindTree) (ds : List Decl) → declared_parameters (declarations trees ds) ≡ parameters_in ds
same_parameters trees [] = refl
same_parameters trees (d ∷ ds) = ap₂ ◌++◌ (one_parameter trees d) (same_parameters trees ds)

-- there are no more factors than parameters

longer : (order : List ℕ) (n : ℕ) (fs : List (NameId × ℕ)) → length (with_parameter order n fs) ≤ length fs + 1
unfolding with_parameter
longer order n [] = omega arith
longer order n (f ∷ fs) = go (n == f.0.0) (is_before order n f.0.0) (longer order n fs)
  where
    go : (b c : Bool) → length (with_parameter order n fs) ≤ length fs + 1 → length (cond b ((f.0, f.1 + 1) ∷ fs) (cond c (factor n ∷ f ∷ fs) (f ∷ with_parameter order n fs))) ≤ length (f ∷ fs) + 1
    go true c h = omega arith
    go false true h = omega arith
    go false false h = omega (arith, h)

pub as_many : (order ns : List ℕ) → length (factors_of order ns) ≤ length ns
as_many order [] = omega arith
as_many order (n ∷ ns) = omega (arith, longer order n (factors_of order ns), as_many order ns)
