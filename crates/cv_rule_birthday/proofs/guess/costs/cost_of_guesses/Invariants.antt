use Rattle.std.proofs.Common.{◌≡◌, map, take, Some}
use Rattle.cv_syntax.specs.Declarations.{declarations}
use Rattle.cv_syntax.specs.PoolTrees.{tree_at}
use Rattle.cv_rule_birthday.specs.guess.Row.{one_in, parameters_of}
use Rattle.cv_rule_birthday.proofs.guess.costs.cost_of_guesses.Given as goal

abbrev pub invariant-places : goal.invariant-places
invariant-places l =
    l.list.items ≡ map (one_in (declarations l.work.pool.trees l.work.decls.list) l.of_type) (map (parameters_of (tree_at l.work.pool.trees (Some l.game))) (take l.k l.places))
