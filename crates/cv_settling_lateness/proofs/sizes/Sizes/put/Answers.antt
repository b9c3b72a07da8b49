use Rattle.cv_settling_lateness.proofs.Keeping.{size_kept}
use Rattle.cv_settling_lateness.proofs.sizes.Sizes.put.Goals as goal

pub returns : goal.returns
returns c trees a e = size_kept trees c.args.self.now a (record { table = c.insert.new.self }) c.args.node c.args.size c.in_ok-insert.ensures.updates e
