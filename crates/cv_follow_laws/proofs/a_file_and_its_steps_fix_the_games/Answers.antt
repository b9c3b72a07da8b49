use Rattle.cv_sequences.proofs.files.kernel.sequences.OneSequence.{alike}
use Rattle.cv_follow_laws.proofs.Names.{stand_once}
use Rattle.cv_follow_laws.proofs.a_file_and_its_steps_fix_the_games.Goals as goal

pub returns : goal.returns
returns c = λ found limit source f known ts us g h after other w p q steps k l.
    let r = alike found f.declarations known f.own f.game g h ts us f.names after other (stand_once limit source f w) p q steps k l in
    (r.one, r.names)
