use Rattle.cv_script_laws.proofs.printing.Scripts.{read_back}
use Rattle.cv_script_laws.proofs.printing.read_steps_come_back.Goals as goal

pub returns : goal.returns
returns c = λ limit live from to names tokens steps are within few proper e. read_back names tokens from to are within few proper limit live steps e
