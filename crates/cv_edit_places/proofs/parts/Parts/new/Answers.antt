use Rattle.std.proofs.Common.{ap, ◌∙◌, []}
use Rattle.cv_edit_places.specs.Parts.{overs, stacked}
use Rattle.cv_edit_places.proofs.Stacks.{overs_none, stacked_none}
use Rattle.cv_edit_places.proofs.parts.Parts.new.Goals as goal

pub returns-clause-stack : goal.returns-clause-stack
returns-clause-stack c = λ trees. ap (stacked trees []) c.new.ensures.items ∙ stacked_none trees

pub returns-clause-made : goal.returns-clause-made
returns-clause-made c = ap overs c.new.ensures.items ∙ overs_none
