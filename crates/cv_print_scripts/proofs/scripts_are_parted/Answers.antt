use Rattle.std.proofs.Common.{refl}
use Rattle.cv_print_scripts.proofs.scripts_are_parted.Goals as goal

pub returns : goal.returns
returns c = refl
