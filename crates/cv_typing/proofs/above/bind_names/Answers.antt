use Rattle.std.proofs.Common.{ap, ◌∙◌}
use Rattle.cv_typing.specs.Tables.{above_of, restored}
use Rattle.cv_typing.proofs.Removals.{restored_none}
use Rattle.cv_typing.proofs.above.bind_names.Goals as goal

pub returns-clause-back : goal.returns-clause-back
returns-clause-back c = c.in_ok-bind_node.ensures.back ∙ (ap (restored (above_of c.args.above.now)) c.new-bound.ensures.items ∙ restored_none (above_of c.args.above.now))
