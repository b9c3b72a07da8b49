use Rattle.std.proofs.Common.{sym, ◌∙◌}
use Rattle.cv_scope.proofs.Cells.{listed_node}
use Rattle.cv_scope.proofs.reads.is_listed.Goals as goal

pub returns-then-has : goal.returns-then-has
returns-then-has c = c.if-has.true ∙ sym (listed_node c.args.pool.now.trees c.args.k c.args.state.now.listed (sym c.has.ensures ∙ c.if-has.true))
