use Rattle.cv_typing.specs.Tables.{above_of}
use Rattle.cv_typing.proofs.Binding.{none_here}
use Rattle.cv_typing.proofs.locals.note_here.Goals as goal

pub returns-in_default : goal.returns-in_default
returns-in_default c = none_here (above_of c.args.sorts.now) c.args.head c.in_default.not-New c.in_default.not-Let
