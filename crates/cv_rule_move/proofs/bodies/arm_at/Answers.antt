use Rattle.std.proofs.Common.{◌∙◌, ap, sym}
use Rattle.std.specs.Prelude.{option_map}
use Rattle.cv_syntax.proofs.Trees.{empty_at}
use Rattle.cv_rule_move.specs.Bodies.{arm_at, arm_of}
use Rattle.cv_rule_move.proofs.bodies.arm_at.Goals as goal

pub returns-in_err-n-clause-arm : goal.returns-in_err-n-clause-arm
returns-in_err-n-clause-arm c =
    let trees = c.args.pool.now.trees in
    ap (option_map (arm_at trees)) c.from_residual.ensures ∙ sym (ap arm_of (empty_at trees c.args.list c.in_err-n.was))
