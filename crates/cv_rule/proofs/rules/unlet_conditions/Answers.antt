use Rattle.cv_rule.proofs.Readings.{read_prepared}
use Rattle.cv_rule.proofs.rules.unlet_conditions.Goals as goal

pub only_assignment-requires-clause-read : goal.only_assignment-requires-clause-read
only_assignment-requires-clause-read c =
    let w = c.args.work.now in
    read_prepared w.pool.trees w.decls c.args.game c.args.arrays.now c.in-OfGame.directory c.requires.prepared c.in-OfGame.is
