use Rattle.std.proofs.Common.{◌≡◌, Some, drop}
use Rattle.cv_syntax.specs.PoolTrees.{tree_at}
use Rattle.cv_rule_birthday.specs.Comparing.{first_uncompared}
use Rattle.cv_rule_birthday.proofs.comparisons.first_uncompared.Given as goal

abbrev pub invariant-places : goal.invariant-places
invariant-places l =
    first_uncompared (tree_at l.pool.trees (Some l.game)) l.x (drop l.k l.places) ≡ first_uncompared (tree_at l.pool.trees (Some l.game)) l.x l.places
