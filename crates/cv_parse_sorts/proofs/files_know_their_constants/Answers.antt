use Rattle.cv_parse_sorts.proofs.Constants.{constants_known}
use Rattle.cv_parse_sorts.proofs.files_know_their_constants.Goals as goal

pub returns : goal.returns
returns c = constants_known
