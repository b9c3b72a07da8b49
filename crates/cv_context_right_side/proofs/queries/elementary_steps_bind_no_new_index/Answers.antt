use Rattle.cv_context_right_side.proofs.queries.Steps.{let_bound, new_bound, prune_bound, rename_bound, rewrite_bound, split_bound, unlet_bound, unnew_bound}
use Rattle.cv_context_right_side.proofs.queries.elementary_steps_bind_no_new_index.Goals as goal

pub returns-clause-split_step : goal.returns-clause-split_step
returns-clause-split_step c = split_bound

pub returns-clause-let_step : goal.returns-clause-let_step
returns-clause-let_step c = let_bound

pub returns-clause-new_step : goal.returns-clause-new_step
returns-clause-new_step c = new_bound

pub returns-clause-unnew_step : goal.returns-clause-unnew_step
returns-clause-unnew_step c = unnew_bound

pub returns-clause-rename_step : goal.returns-clause-rename_step
returns-clause-rename_step c = rename_bound

pub returns-clause-unlet_step : goal.returns-clause-unlet_step
returns-clause-unlet_step c = unlet_bound

pub returns-clause-rewrite_step : goal.returns-clause-rewrite_step
returns-clause-rewrite_step c = rewrite_bound

pub returns-clause-prune_step : goal.returns-clause-prune_step
returns-clause-prune_step c = prune_bound
