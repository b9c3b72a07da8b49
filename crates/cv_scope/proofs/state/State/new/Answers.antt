use Rattle.cv_scope.specs.Held.{cells_held}
use Rattle.cv_scope.proofs.state.State.new.Goals as goal

pub returns-clause-held : goal.returns-clause-held
returns-clause-held c = λ trees i. record {
  replications = c.new.ensures.items i;
  defined = c.new-2.ensures i;
  listed = cells_held trees (c.new-3.ensures i);
  passed = c.new-4.ensures i;
  last = c.new-5.ensures.held trees i;
}
