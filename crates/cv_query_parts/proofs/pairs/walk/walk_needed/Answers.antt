use Rattle.std.proofs.Common.{ap, ◌∙◌}
use Rattle.cv_syntax.specs.PoolTrees.{tree_at}
use Rattle.cv_query_certificates.specs.Pairs.{needed_pairs}
use Rattle.cv_query_parts.specs.Views.{asked_of}
use Rattle.cv_query_parts.specs.pairs.Marked.{entries_seen}
use Rattle.cv_query_parts.specs.pairs.Walks.{needed_of_all, nothing}
use Rattle.cv_query_parts.proofs.pairs.Reaching.{marked_pairs}
use Rattle.cv_query_parts.proofs.pairs.Walking.{as_needed}
use Rattle.cv_query_parts.proofs.pairs.walk.walk_needed.Goals as goal

pub returns-clause-leads : goal.returns-clause-leads
returns-clause-leads c =
    let trees = c.args.pool.now.trees in
    let q = asked_of trees c.args.asked.now in
    let parts = tree_at trees c.args.parts in
    let entries = c.as_slice.result.now in
    as_needed trees c.args.walk.now c.walk_all.new.walk c.in_ok-stopped.stopped (λ s k. needed_pairs s k q parts) (λ s k. needed_of_all s k trees entries) nothing
    (λ s k. marked_pairs s k trees q parts entries c.if-not-asked.false (ap (entries_seen s trees) c.as_slice.ensures.value ∙ c.in_ok-entries.ensures.ends s)) c.in_ok-stopped.ensures.leads
