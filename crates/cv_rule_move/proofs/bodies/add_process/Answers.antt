use Rattle.std.proofs.lemmas.Result.{on_ok_weaker}
use Rattle.cv_rule_move.proofs.bodies.add_process.Goals as goal

pub returns-clause-live : goal.returns-clause-live
returns-clause-live c = on_ok_weaker c.over.result (λ k n a d x y. k n (c.in_ok-add_definition.ensures.live n (c.in_ok-there.ensures.live n a x) d y)) c.over.ensures.live
