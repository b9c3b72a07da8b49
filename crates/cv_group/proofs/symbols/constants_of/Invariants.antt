use Rattle.std.proofs.Common.{◌≡◌, ◌||◌, ℕ, drop}
use Rattle.cv_syntax.specs.Declarations.{declarations}
use Rattle.cv_syntax.specs.NameSets.{is_in}
use Rattle.cv_meaning.specs.Interpretation.{is_constant_of}
use Rattle.cv_group.proofs.symbols.constants_of.Given as goal

abbrev pub invariant-decls : goal.invariant-decls
invariant-decls l = record { same : (x : ℕ) → (is_in l.constants x || is_constant_of (declarations l.pool.trees (drop l.k l.decls.list)) x) ≡ is_constant_of (declarations l.pool.trees l.decls.list) x }
