use Rattle.cv_syntax.specs.PoolTrees.{tree_at}
use Rattle.cv_settling_lateness.proofs.Descending.{barred, free, stopped}
use Rattle.cv_settling_lateness.proofs.lateness.Lateness.way_behind.Goals as goal

pub returns-then-is_defined_above-clause-way : goal.returns-then-is_defined_above-clause-way
returns-then-is_defined_above-clause-way c a sorted few e = stopped c.args.children.second _ _ c.is_defined_above.result (c.is_defined_above.ensures a few) c.if-is_defined_above.true

pub returns-then-is_free_beside-clause-way : goal.returns-then-is_free_beside-clause-way
returns-then-is_free_beside-clause-way c a sorted few e =
    free c.args.children.second _ _ c.is_defined_above.result (c.is_defined_above.ensures a few) c.is_free_beside.result c.if-is_defined_above.false (c.is_free_beside.ensures (tree_at c.args.pool.now.trees c.args.node.first) sorted e) c.if-is_free_beside.true

pub returns-clause-way : goal.returns-clause-way
returns-clause-way c a sorted few e =
    barred c.args.children.second _ _ c.is_defined_above.result (c.is_defined_above.ensures a few) c.is_free_beside.result c.if-is_defined_above.false (c.is_free_beside.ensures (tree_at c.args.pool.now.trees c.args.node.first) sorted e) c.if-is_free_beside.false
