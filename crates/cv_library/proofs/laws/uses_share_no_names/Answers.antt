use Rattle.cv_library.proofs.Renaming.{one_use}
use Rattle.cv_library.proofs.laws.uses_share_no_names.Goals as goal

pub returns : goal.returns
returns c = λ j k name other p q e. one_use j k name other p q e
