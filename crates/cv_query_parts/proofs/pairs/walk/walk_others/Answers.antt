use Rattle.std.proofs.Common.{ℕ, arith, sym, ◌∙◌}
use Rattle.cv_scene.specs.Scenes.{Scene}
use Rattle.cv_query_parts.specs.declared.pairs.marked.MarkedRoute.{MarkedRoute}
use Rattle.cv_query_parts.specs.pairs.Walks.{needed_of_routes}
use Rattle.cv_query_parts.proofs.pairs.Walking.{breaks, ends_all, next}
use Rattle.cv_query_parts.proofs.pairs.walk.walk_others.Goals as goal

pub returns-then-is_some-clause-leads : goal.returns-then-is_some-clause-leads
returns-then-is_some-clause-leads c =
    let trees = c.args.pool.now.trees in
    let need = λ (x : MarkedRoute) (s : Scene) (k : ℕ). needed_of_routes s k trees c.args.first c.args.second c.args.one x in
    breaks trees need c.args.others.now c.args.walk.now c.others.j c.others.walk c.walk_both.new.walk _ c.in_ok-stopped.stopped c.others-test.true c.others.invariant.leads (sym c.is_some.ensures ∙ c.if-is_some.true) c.in_ok-stopped.ensures.leads

pub others-preserved : goal.others-preserved
others-preserved c =
    let trees = c.args.pool.now.trees in
    let need = λ (x : MarkedRoute) (s : Scene) (k : ℕ). needed_of_routes s k trees c.args.first c.args.second c.args.one x in
    record {
      walked = c.in_ok-stopped.ensures.walked;
      leads = next trees need c.args.others.now c.args.walk.now c.others.j c.others.walk c.walk_both.new.walk _ c.in_ok-stopped.stopped c.others-test.true c.others.invariant.leads (sym c.is_some.ensures ∙ c.if-is_some.false) c.in_ok-stopped.ensures.leads;
    }

pub returns-clause-leads : goal.returns-clause-leads
returns-clause-leads c =
    let trees = c.args.pool.now.trees in
    ends_all trees (λ (x : MarkedRoute) (s : Scene) (k : ℕ). needed_of_routes s k trees c.args.first c.args.second c.args.one x) c.args.others.now c.args.walk.now c.others.walk c.others.j (omega arith) c.others.invariant.leads
