use Rattle.std.proofs.Common.{ap, ◌∙◌, ◌||◌}
use Rattle.cv_syntax.specs.PoolTrees.{tree_at}
use Rattle.cv_rule_fresh.proofs.Seeing.{second_sees}
use Rattle.cv_rule_fresh.proofs.reach.entered.Goals as goal

pub returns : goal.returns
returns c = λ Γ k s.
    let trees = c.args.pool.now.trees in
    second_sees (tree_at trees c.args.cell) c.args.position c.args.node.head (tree_at trees c.args.node.first) Γ c.args.seen _ s
    (c.is_seen.ensures ∙ ap (λ v. c.args.seen.defined || v) (c.is_entered-entered.ensures Γ k s)) (c.is_own.ensures Γ k s)
