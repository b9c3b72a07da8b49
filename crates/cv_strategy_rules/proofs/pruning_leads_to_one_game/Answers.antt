use Rattle.cv_strategy_rules.proofs.Refuted.{pruned_game}
use Rattle.cv_strategy_rules.proofs.pruning_leads_to_one_game.Goals as goal

pub returns : goal.returns
returns c = pruned_game
