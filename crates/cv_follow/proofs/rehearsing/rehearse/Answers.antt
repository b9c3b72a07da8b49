use Rattle.std.proofs.Common.{refl}
use Rattle.cv_rehearsals.proofs.Works.{unchanged_back}
use Rattle.cv_follow.proofs.rehearsing.rehearse.Goals as goal
