use Rattle.std.proofs.lemmas.Result.{on_ok_weaker}
use Rattle.cv_rule_move.proofs.bodies.add_branch.Goals as goal

pub returns-clause-live : goal.returns-clause-live
returns-clause-live c =
    on_ok_weaker c.over-3.result
    (λ k n a d l.
    let behind = c.in_ok-there-3.ensures.live n (c.in_ok-there-2.ensures.live n (c.in_ok-there.ensures.live n a l.indices) l.behind.first) l.behind.second in
    k n (c.in_ok-over-2.ensures.live n (c.in_ok-over.ensures.live n (c.in_ok-add_definition.ensures.live n behind d l.behind.rest))))
    c.over-3.ensures.live
