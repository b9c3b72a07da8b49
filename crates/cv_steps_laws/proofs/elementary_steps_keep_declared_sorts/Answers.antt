use Rattle.cv_steps_laws.proofs.Declared.{let_declared, new_declared, prune_declared, rename_declared, rewrite_declared, split_declared, unlet_declared, unnew_declared}
use Rattle.cv_steps_laws.proofs.elementary_steps_keep_declared_sorts.Goals as goal

pub returns-clause-split_step : goal.returns-clause-split_step
returns-clause-split_step c = split_declared

pub returns-clause-let_step : goal.returns-clause-let_step
returns-clause-let_step c = let_declared

pub returns-clause-new_step : goal.returns-clause-new_step
returns-clause-new_step c = new_declared

pub returns-clause-unnew_step : goal.returns-clause-unnew_step
returns-clause-unnew_step c = unnew_declared

pub returns-clause-rename_step : goal.returns-clause-rename_step
returns-clause-rename_step c = rename_declared

pub returns-clause-unlet_step : goal.returns-clause-unlet_step
returns-clause-unlet_step c = unlet_declared

pub returns-clause-rewrite_step : goal.returns-clause-rewrite_step
returns-clause-rewrite_step c = rewrite_declared

pub returns-clause-prune_step : goal.returns-clause-prune_step
returns-clause-prune_step c = prune_declared
