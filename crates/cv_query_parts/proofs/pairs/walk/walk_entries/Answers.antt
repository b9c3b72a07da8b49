use Rattle.std.proofs.Common.{ℕ, List, None, ap₂, arith, sym, ◌∙◌}
use Rattle.std.specs.Prelude.{flat_map}
use Rattle.cv_scene.specs.Scenes.{Scene}
use Rattle.cv_query_parts.specs.declared.pairs.marked.MarkedRoute.{MarkedRoute}
use Rattle.cv_query_parts.specs.pairs.Walks.{needed_of_entries, needed_of_route, nothing}
use Rattle.cv_query_parts.proofs.pairs.Walking.{as_needed, breaks, ends_all, next}
use Rattle.cv_query_parts.proofs.pairs.walk.walk_entries.Goals as goal

pub returns-then-is_some-clause-leads : goal.returns-then-is_some-clause-leads
returns-then-is_some-clause-leads c =
    let trees = c.args.pool.now.trees in
    let p = c.args.entry.now.place in
    let q = c.args.other.now.place in
    let routes = c.as_slice-routes.result.now in
    let others = c.as_slice-others.result.now in
    let need = λ (x : MarkedRoute) (s : Scene) (k : ℕ). needed_of_route s k trees p q x others in
    as_needed trees c.args.walk.now c.walk_others.new.walk c.in_ok-stopped.stopped (λ s k. needed_of_entries s k trees c.args.entry.now c.args.other.now) (λ s k. flat_map (λ x. need x s k) routes) nothing
    (λ s k. ap₂ (λ (rs ts : List MarkedRoute). flat_map (λ (r : MarkedRoute). needed_of_route s k trees p q r ts) rs) (sym c.as_slice-routes.ensures.value) (sym c.as_slice-others.ensures.value))
    (breaks trees need routes c.args.walk.now c.routes.j c.routes.walk c.walk_others.new.walk _ c.in_ok-stopped.stopped c.routes-test.true c.routes.invariant.leads (sym c.is_some.ensures ∙ c.if-is_some.true) c.in_ok-stopped.ensures.leads)

pub routes-preserved : goal.routes-preserved
routes-preserved c =
    let trees = c.args.pool.now.trees in
    let need = λ (x : MarkedRoute) (s : Scene) (k : ℕ). needed_of_route s k trees c.args.entry.now.place c.args.other.now.place x c.as_slice-others.result.now in
    record {
      walked = c.in_ok-stopped.ensures.walked;
      leads = next trees need c.as_slice-routes.result.now c.args.walk.now c.routes.j c.routes.walk c.walk_others.new.walk _ c.in_ok-stopped.stopped c.routes-test.true c.routes.invariant.leads (sym c.is_some.ensures ∙ c.if-is_some.false) c.in_ok-stopped.ensures.leads;
    }

pub returns-clause-leads : goal.returns-clause-leads
returns-clause-leads c =
    let trees = c.args.pool.now.trees in
    let p = c.args.entry.now.place in
    let q = c.args.other.now.place in
    let routes = c.as_slice-routes.result.now in
    let need = λ (x : MarkedRoute) (s : Scene) (k : ℕ). needed_of_route s k trees p q x c.as_slice-others.result.now in
    as_needed trees c.args.walk.now c.routes.walk None (λ s k. needed_of_entries s k trees c.args.entry.now c.args.other.now) (λ s k. flat_map (λ x. need x s k) routes) nothing
    (λ s k. ap₂ (λ (rs ts : List MarkedRoute). flat_map (λ (r : MarkedRoute). needed_of_route s k trees p q r ts) rs) (sym c.as_slice-routes.ensures.value) (sym c.as_slice-others.ensures.value))
    (ends_all trees need routes c.args.walk.now c.routes.walk c.routes.j (omega arith) c.routes.invariant.leads)
