use Rattle.std.proofs.Common.{◌≡◌, ◌||◌, ℕ, List, drop}
use Rattle.cv_pool.specs.KindTree.{KindTree}
use Rattle.cv_syntax.specs.Declarations.{declarations}
use Rattle.cv_syntax.specs.NameSets.{is_in}
use Rattle.cv_group_rules.specs.Symbols.{is_function_of}
use Rattle.cv_group.proofs.symbols.functions_of.Given as goal

abbrev pub invariant-decls : goal.invariant-decls
invariant-decls l = record { same : (trees : List KindTree) (x : ℕ) → (is_in l.functions x || is_function_of (declarations trees (drop l.k l.decls.list)) x) ≡ is_function_of (declarations trees l.decls.list) x }
