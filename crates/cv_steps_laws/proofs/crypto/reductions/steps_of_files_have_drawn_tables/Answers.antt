use Rattle.std.proofs.Common.{◌≤◌, ℕ, arith, length}
use Rattle.std.proofs.Math.Nat.{le-max_left}
use Rattle.cv_match_laws.specs.answers.Answers.{above_names, answer_above}
use Rattle.cv_inline_draws.specs.taken_names.Taken.{taken_names}
use Rattle.cv_steps_laws.specs.crypto.reductions.Tables.{step_of_file}
use Rattle.cv_steps_laws.proofs.crypto.reductions.Drawn.{gives}
use Rattle.cv_steps_laws.proofs.crypto.reductions.Taken.{are_taken}
use Rattle.cv_steps_laws.proofs.crypto.reductions.steps_of_files_have_drawn_tables.Goals as goal

pub returns : goal.returns
returns c ds own more game e x before after d small named above few room i =
    let higher = λ (k : ℕ). let h = le-max_left more (above_names game) in let a : length after ≤ answer_above more game k = omega arith in a in
    gives (step_of_file ds own more game e x) before after (taken_names own game) d (are_taken ds own (length before) game small named) few room higher i
