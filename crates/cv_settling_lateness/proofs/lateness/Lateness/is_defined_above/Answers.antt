use Rattle.cv_syntax.specs.PoolTrees.{tree_at}
use Rattle.cv_settling_lateness.proofs.Descending.{above_there, not_above}
use Rattle.cv_settling_lateness.proofs.lateness.Lateness.is_defined_above.Goals as goal

pub returns-then-not-is_definition : goal.returns-then-not-is_definition
returns-then-not-is_definition c a b =
    let trees = c.args.pool.now.trees in
    not_above c.args.x c.args.node.head (tree_at trees c.args.node.first) (tree_at trees c.args.node.second) c.args.place c.is_definition.result c.is_definition.ensures c.if-not-is_definition.true

pub returns : goal.returns
returns c a b =
    let trees = c.args.pool.now.trees in
    above_there c.args.x c.args.node.head (tree_at trees c.args.node.first) (tree_at trees c.args.node.second) c.args.place c.is_definition.result c.is_behind_guards.result c.is_definition.ensures c.if-not-is_definition.false (c.is_behind_guards.ensures a b)
