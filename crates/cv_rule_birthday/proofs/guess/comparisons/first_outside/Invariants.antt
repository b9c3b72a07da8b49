use Rattle.std.proofs.Common.{◌≡◌, Some, drop}
use Rattle.cv_syntax.specs.PoolTrees.{tree_at}
use Rattle.cv_rule_birthday.specs.guess.Guessing.{compares_at, first_outside}
use Rattle.cv_rule_birthday.proofs.guess.comparisons.first_outside.Given as goal

abbrev pub invariant-places : goal.invariant-places
invariant-places l =
    first_outside (compares_at (tree_at l.pool.trees (Some l.game)) l.x) (drop l.k l.places) ≡ first_outside (compares_at (tree_at l.pool.trees (Some l.game)) l.x) l.places
