use Rattle.cv_sequences.proofs.soundness.Sound.{let_sound, new_sound, prune_sound, rename_sound, rewrite_sound, split_sound, unlet_sound, unnew_sound}
use Rattle.cv_sequences.proofs.soundness.elementary_steps_are_sound.Goals as goal

pub returns-clause-split_step : goal.returns-clause-split_step
returns-clause-split_step c = split_sound

pub returns-clause-let_step : goal.returns-clause-let_step
returns-clause-let_step c = let_sound

pub returns-clause-new_step : goal.returns-clause-new_step
returns-clause-new_step c = new_sound

pub returns-clause-unnew_step : goal.returns-clause-unnew_step
returns-clause-unnew_step c = unnew_sound

pub returns-clause-rename_step : goal.returns-clause-rename_step
returns-clause-rename_step c = rename_sound

pub returns-clause-unlet_step : goal.returns-clause-unlet_step
returns-clause-unlet_step c = unlet_sound

pub returns-clause-rewrite_step : goal.returns-clause-rewrite_step
returns-clause-rewrite_step c = rewrite_sound

pub returns-clause-prune_step : goal.returns-clause-prune_step
returns-clause-prune_step c = prune_sound
