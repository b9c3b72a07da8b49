use Rattle.std.proofs.Common.{ap, is_some, sym, ◌∙◌}
use Rattle.cv_bound.proofs.closings.Among.{among_sum}
use Rattle.cv_bound.proofs.closings.queries.ClosedQueries.is_closed.Goals as goal
use Rattle.cv_syntax_trees.proofs.lists.Options.{is_some_map}

pub returns : goal.returns
returns c = c.is_some.ensures ∙ (sym (is_some_map (λ s. s.now) c.sum.result) ∙ (ap is_some c.sum.ensures ∙ sym (among_sum c.args.self.now c.args.query)))
