use Rattle.std.proofs.Common.{◌≡◌, drop}
use Rattle.cv_scene_view.specs.Kept.{scene_of}
use Rattle.cv_query_parts.specs.pairs.Walks as walks
use Rattle.cv_query.specs.pairs.Proved.{IsAsBefore}
use Rattle.cv_query.proofs.pairs.testing.first_unproved.Given as goal

abbrev pub invariant-pairs : goal.invariant-pairs
invariant-pairs l =
    let s = scene_of l.fn.work.pool l.fn.work.decls l.game in
    record {
      before : IsAsBefore l.fn.work l.work;
      same : walks.first_unproved s l.taken.raise l.taken.distinct.now l.fn.work.pool.trees (drop l.k l.met) ≡ walks.first_unproved s l.taken.raise l.taken.distinct.now l.fn.work.pool.trees l.met;
    }
