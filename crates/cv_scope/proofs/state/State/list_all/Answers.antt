use Rattle.std.proofs.Common.{◌++◌, append-nil, ap, sym, ◌∙◌}
use Rattle.cv_syntax.proofs.Trees.{empty_at}
use Rattle.cv_scope_rules.specs.Context.{items}
use Rattle.cv_scope.specs.Held.{cells_held}
use Rattle.cv_scope.proofs.state.State.list_all.Goals as goal

pub returns : goal.returns
returns c =
    let trees = c.args.pool.now.trees in
    let i = c.cells.invariant in
    let cells = cells_held trees c.cells.self.listed in
    record {
      replications = i.replications;
      defined = i.defined;
      listed = sym (append-nil cells) ∙ (sym (ap (λ t. cells ++ items t) (empty_at trees c.cells.at c.in_default.is)) ∙ i.same);
      front = i.front;
      live = i.live;
      passed = i.passed;
      last = i.last;
    }
