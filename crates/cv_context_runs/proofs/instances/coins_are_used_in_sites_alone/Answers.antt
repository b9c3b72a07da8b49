use Rattle.cv_context_runs.proofs.instances.Own.{key_no_coin, unused_outside}
use Rattle.cv_context_runs.proofs.instances.coins_are_used_in_sites_alone.Goals as goal

pub returns-clause-outside : goal.returns-clause-outside
returns-clause-outside c r y left coins e = unused_outside r left coins y e

pub returns-clause-key : goal.returns-clause-key
returns-clause-key c r left coins = key_no_coin r left coins
