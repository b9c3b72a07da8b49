use Rattle.std.proofs.Common.{sym}
use Rattle.cv_syntax.specs.PoolTrees.{tree_at}
use Rattle.cv_inline_draws.specs.callings.FirstCalls.{calls_in}
use Rattle.cv_inline_draws.proofs.callings.CallWalks.{other_node}
use Rattle.cv_inline_draws.proofs.callings.calls.note_node.Goals as goal

pub returns-in_default : goal.returns-in_default
returns-in_default c =
    let trees = c.args.pool.now.trees in
    record {
      calls = sym (other_node (calls_in trees c.args.calls.now) c.args.replications.now c.args.node.head (tree_at trees c.args.node.first) c.in_default.not-Call);
      live = c.requires.calls;
    }
