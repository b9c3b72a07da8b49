use Rattle.std.proofs.Common.{◌≡◌, false, take}
use Rattle.cv_script.specs.reader.Scripts.{trees_of}
use Rattle.cv_follow.specs.Fillings.{has_word}
use Rattle.cv_follow.proofs.filling.has_word.Given as goal

abbrev pub invariant-steps : goal.invariant-steps
invariant-steps l = has_word (trees_of l.pool.trees (take l.step-index l.script)) ≡ false
