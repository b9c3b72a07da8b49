use Rattle.std.proofs.Common.{◌∙◌}
use Rattle.cv_typing.specs.Tables.{above_of}
use Rattle.cv_typing.proofs.Removals.{bound_back, inserted}
use Rattle.cv_typing.proofs.above.put.Goals as goal

pub returns-clause-back : goal.returns-clause-back
returns-clause-back c = bound_back (above_of c.args.above.now) (above_of c.insert.new.self) c.args.bound.now.items c.push.new.self.items c.args.x c.args.sort c.copied-before.result (inserted c.args.x c.args.sort c.args.above.now c.insert.new.self c.in_ok-insert.ensures.updates) (c.copied-before.ensures ∙ c.get.ensures.value) c.in_ok-push.ensures.items
