use Rattle.std.proofs.Common.{ap, sym, ◌∙◌}
use Rattle.cv_syntax.proofs.Trees.{empty_at}
use Rattle.cv_steps.specs.Unletting.{has_cell_of}
use Rattle.cv_rule.proofs.listing.has_cell_of.Goals as goal

pub returns : goal.returns
returns c = sym (ap (has_cell_of c.args.x) (empty_at c.args.pool.now.trees c.cells.at c.in_default.is)) ∙ c.cells.invariant.rest
