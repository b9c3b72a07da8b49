use Rattle.cv_sequences.proofs.files.kernel.rules.Sound.{sound}
use Rattle.cv_sequences.proofs.files.kernel.rules.steps_with_a_rule_are_sound.Goals as goal

pub returns : goal.returns
returns c = sound
