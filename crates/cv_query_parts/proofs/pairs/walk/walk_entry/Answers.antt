use Rattle.std.proofs.Common.{ℕ, ap, arith, get_or, sym, ◌∙◌}
use Rattle.cv_scene.specs.Scenes.{Scene}
use Rattle.cv_query_parts.specs.declared.pairs.marked.MarkedEntry.{MarkedEntry}
use Rattle.cv_query_parts.specs.pairs.Walks.{needed_of_entries, nothing}
use Rattle.cv_query_parts.proofs.pairs.Walking.{as_needed, breaks, ends_all, next}
use Rattle.cv_query_parts.proofs.pairs.walk.walk_entry.Goals as goal

pub returns-then-is_some-clause-leads : goal.returns-then-is_some-clause-leads
returns-then-is_some-clause-leads c =
    let trees = c.args.pool.now.trees in
    let need = λ (x : MarkedEntry) (s : Scene) (k : ℕ). needed_of_entries s k trees c.args.entry.now x in
    let this = as_needed trees c.entries.walk c.walk_entries.new.walk c.in_ok-stopped.stopped (need (get_or c.args.entries.now c.entries.j c.index-entries-j.result)) (need c.index-entries-j.result) nothing (λ s k. ap (λ x. need x s k) (sym c.index-entries-j.is)) c.in_ok-stopped.ensures.leads in
    breaks trees need c.args.entries.now c.args.walk.now c.entries.j c.entries.walk c.walk_entries.new.walk c.index-entries-j.result c.in_ok-stopped.stopped c.entries-test.true c.entries.invariant.leads (sym c.is_some.ensures ∙ c.if-is_some.true) this

pub entries-preserved : goal.entries-preserved
entries-preserved c =
    let trees = c.args.pool.now.trees in
    let need = λ (x : MarkedEntry) (s : Scene) (k : ℕ). needed_of_entries s k trees c.args.entry.now x in
    let this = as_needed trees c.entries.walk c.walk_entries.new.walk c.in_ok-stopped.stopped (need (get_or c.args.entries.now c.entries.j c.index-entries-j.result)) (need c.index-entries-j.result) nothing (λ s k. ap (λ x. need x s k) (sym c.index-entries-j.is)) c.in_ok-stopped.ensures.leads in
    record {
      walked = c.in_ok-stopped.ensures.walked;
      leads = next trees need c.args.entries.now c.args.walk.now c.entries.j c.entries.walk c.walk_entries.new.walk c.index-entries-j.result c.in_ok-stopped.stopped c.entries-test.true c.entries.invariant.leads (sym c.is_some.ensures ∙ c.if-is_some.false) this;
    }

pub returns-clause-leads : goal.returns-clause-leads
returns-clause-leads c =
    let trees = c.args.pool.now.trees in
    ends_all trees (λ (x : MarkedEntry) (s : Scene) (k : ℕ). needed_of_entries s k trees c.args.entry.now x) c.args.entries.now c.args.walk.now c.entries.walk c.entries.j (omega arith) c.entries.invariant.leads
