use Rattle.cv_script_laws.proofs.forms.Steps.{have_items}
use Rattle.cv_script_laws.proofs.forms.laws.steps_have_items.Goals as goal

pub returns : goal.returns
returns c = have_items
