use Rattle.std.proofs.Common.{refl, Some}
use Rattle.cv_syntax.specs.PoolTrees.{tree_at}
use Rattle.cv_rule_pick.proofs.Reached.{reaches}
use Rattle.cv_rule_pick.proofs.scope.reach_behind.Goals as goal

pub returns : goal.returns
returns c = λ Γ e k.
    let trees = c.args.pool.now.trees in
    reaches (tree_at trees (Some c.args.cell)) c.args.position c.args.node.head (tree_at trees c.args.node.first) Γ c.args.reach _ c.gives-given.result k (c.gives-given.ensures Γ e k.own) c.either.ensures (c.own_behind.ensures Γ e k.own)
