use Rattle.cv_strategy_rules.proofs.Refuted.{rewritten}
use Rattle.cv_strategy_rules.proofs.rewriting_leads_to_one_game.Goals as goal

pub returns : goal.returns
returns c = rewritten
