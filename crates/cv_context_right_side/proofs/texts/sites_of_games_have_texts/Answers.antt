use Rattle.cv_context_right_side.proofs.texts.Texts.{site_text}
use Rattle.cv_context_right_side.proofs.texts.sites_of_games_have_texts.Goals as goal

pub returns : goal.returns
returns c T r h given formed typed known form accepted free answers l s at = site_text r given formed typed known form accepted free answers l s at T h
