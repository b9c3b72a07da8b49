use Rattle.std.proofs.Common.{◌∙◌}
use Rattle.cv_syntax.specs.PoolTrees.{tree_at}
use Rattle.cv_inline_draws.specs.callings.FirstCalls.{calls_in}
use Rattle.cv_inline_draws.proofs.callings.CallWalks.{calls_alone, nothing_found}
use Rattle.cv_inline_draws.proofs.callings.calls.first_calls.Goals as goal

pub returns-clause-calls : goal.returns-clause-calls
returns-clause-calls c =
    let trees = c.args.pool.now.trees in
    c.in_ok-note_calls.ensures.calls ∙ calls_alone (calls_in trees c.new-calls.result) c.new-replications.result.items (tree_at trees c.args.context) (nothing_found trees c.new-calls.result c.new-calls.ensures.empty) c.new-replications.ensures.items
