use Rattle.cv_derive.specs.Seen.{sight_of}
use Rattle.cv_derive.proofs.Reasoning.{seen}
use Rattle.cv_derive.proofs.checking.is_condition_here.Goals as goal

pub returns : goal.returns
returns c = c.is_condition.ensures (sight_of c.args.s.now) (seen c.args.s.now c.requires.sees)
