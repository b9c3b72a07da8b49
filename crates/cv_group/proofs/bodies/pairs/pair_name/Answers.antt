use Rattle.cv_group.proofs.bodies.Sets as set
use Rattle.cv_group.proofs.bodies.pairs.pair_name.Goals as goal

pub returns : goal.returns
returns c = λ n y. set.pair_added c.args.names.now c.insert.new.self c.args.bound c.args.x c.in_ok-insert.ensures.updates n y
