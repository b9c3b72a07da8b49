use Rattle.cv_sequences.proofs.files.kernel.sequences.OneSequence.{alike}
use Rattle.cv_sequences.proofs.files.kernel.sequences.accepted_steps_lead_to_one_sequence.Goals as goal

pub returns : goal.returns
returns c = λ found ds known own first g h ts us before after other apart p q steps k l.
    let r = alike found ds known own first g h ts us before after other apart p q steps k l in
    (r.one, r.names)
