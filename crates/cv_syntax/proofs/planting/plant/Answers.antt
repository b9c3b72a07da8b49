use Rattle.std.proofs.Common.{◌∙◌}
use Rattle.cv_syntax.proofs.Plantings.{made_back}
use Rattle.cv_syntax.proofs.planting.plant.Goals as goal

pub returns-in-Ok-clause-back : goal.returns-in-Ok-clause-back
returns-in-Ok-clause-back c = λ ts e. c.in-Ok.ensures.trees ∙ made_back ts c.args.makes.now e
