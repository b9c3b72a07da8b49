use Rattle.std.proofs.Common.{arith}
use Rattle.cv_typing.specs.Tables.{above_of}
use Rattle.cv_typing.proofs.Removals.{restored_end, restored_step}
use Rattle.cv_typing.proofs.above.unbind.Goals as goal

pub bound-preserved : goal.bound-preserved
bound-preserved c = restored_step (above_of c.bound.above) (above_of c.put_back.new.above) _ c.bound.bound.items c.pop.new.self.items c.in-Some.x c.in-Some.before c.bound.invariant c.in-Some.ensures.items c.in_ok-put_back.ensures

pub returns : goal.returns
returns c = restored_end (above_of c.bound.above) _ c.bound.bound.items (omega (arith, c.in_default.ensures.cases.0)) c.bound.invariant
