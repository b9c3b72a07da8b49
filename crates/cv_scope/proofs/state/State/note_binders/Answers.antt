use Rattle.std.proofs.Common.{ap, sym, ◌∙◌}
use Rattle.cv_syntax.specs.PoolTrees.{tree_at}
use Rattle.cv_scope.specs.Held.{last_held}
use Rattle.cv_scope.specs.Seen.{with_sites}
use Rattle.cv_scope.proofs.Noting.{above_again, binder_may, binder_noted, binder_refused, sites_end}
use Rattle.cv_scope.proofs.state.State.note_binders.Goals as goal

pub returns-then-not-branch-clause-may : goal.returns-then-not-branch-clause-may
returns-then-not-branch-clause-may c =
    let trees = c.args.pool.now.trees in
    let i = c.binders.invariant in
    binder_refused c.args.self.now.passed c.binders.self.passed c.args.self.now.replications.items c.binders.self.replications.items c.args.place (tree_at trees c.binders.at) (tree_at trees c.in-Some.binder.rest) c.in-Some.binder.name (last_held trees c.binders.self.last) i.above.passed i.above.replications c.in-Some.ensures.0 c.in_ok-note_variable.field-0 c.in_ok-note_variable.ensures.may c.if-not-branch.true
    ∙ i.may

pub binders-preserved : goal.binders-preserved
binders-preserved c =
    let trees = c.args.pool.now.trees in
    let i = c.binders.invariant in
    let noted = c.in_ok-note_variable.ensures.noted in
    record {
      list = c.in-Some.ensures.2;
      live = noted.live;
      above = above_again c.args.self.now c.binders.self c.note_variable.new.self i.above noted.above;
      may =
          binder_may c.args.self.now.passed c.binders.self.passed c.args.self.now.replications.items c.binders.self.replications.items c.args.place (tree_at trees c.binders.at) (tree_at trees c.in-Some.binder.rest) c.in-Some.binder.name (last_held trees c.binders.self.last) i.above.passed i.above.replications c.in-Some.ensures.0 c.in_ok-note_variable.field-0 (last_held trees c.note_variable.new.self.last) c.in_ok-note_variable.ensures.may c.if-not-branch.false noted.last
          ∙ i.may;
      noted =
          binder_noted c.args.self.now.passed c.binders.self.passed c.args.self.now.replications.items c.binders.self.replications.items c.args.place (tree_at trees c.binders.at) (tree_at trees c.in-Some.binder.rest) c.in-Some.binder.name (last_held trees c.binders.self.last) i.above.passed i.above.replications c.in-Some.ensures.0 (last_held trees c.note_variable.new.self.last) noted.last
          ∙ i.noted;
    }

pub returns-clause-noted : goal.returns-clause-noted
returns-clause-noted c = λ t.
    let trees = c.args.pool.now.trees in
    let i = c.binders.invariant in
    record {
      above = i.above;
      last = sym (ap (with_sites (last_held trees c.binders.self.last)) (sites_end c.args.self.now.replications.items c.args.place (tree_at trees c.binders.at) c.in_default.ensures.0)) ∙ i.noted;
      live = i.live;
    }
