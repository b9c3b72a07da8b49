use Rattle.std.proofs.Common.{length}
use Rattle.std.proofs.lemmas.Result.{on_ok_weaker}
use Rattle.cv_rule_move.proofs.bodies.add_find.Goals as goal

pub returns-clause-live : goal.returns-clause-live
returns-clause-live c =
    let n = length c.args.pool.now.trees in
    on_ok_weaker c.over.result (λ k a. k n (c.in_ok-add_definition.ensures.live n (c.in_ok-add_branches.ensures.live a) c.requires.definition c.requires.second)) c.over.ensures.live
