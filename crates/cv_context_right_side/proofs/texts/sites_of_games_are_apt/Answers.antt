use Rattle.cv_context_right_side.proofs.texts.Texts.{apt_site}
use Rattle.cv_context_right_side.proofs.texts.sites_of_games_are_apt.Goals as goal

pub returns : goal.returns
returns c r given formed typed known form accepted free answers l s at = apt_site r given formed typed known form accepted free answers l s at
