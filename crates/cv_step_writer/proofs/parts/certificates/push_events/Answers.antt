use Rattle.std.specs.Prelude.{◌++◌, map}
use Rattle.std.proofs.lemmas.Result.{on_ok_weaker}
use Rattle.cv_step_writer.specs.Certificates.{distinct_part, entry_tree, pair_tree}
use Rattle.cv_step_writer.proofs.Making.{events_made}
use Rattle.cv_step_writer.proofs.parts.certificates.push_events.Goals as goal

pub returns : goal.returns
returns c =
    let trees = c.args.pool.now.trees in
    on_ok_weaker c.close_cells.result (λ e. events_made (entry_tree trees) c.args.entries.now (distinct_part c.args.distinct.now ++ map (pair_tree trees) c.args.pairs.now) _ _ _ _ c.in_ok-push_entries.ensures c.in_ok-push_later_parts.ensures e) c.close_cells.ensures
