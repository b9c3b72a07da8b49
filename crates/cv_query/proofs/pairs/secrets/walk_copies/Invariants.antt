use Rattle.std.proofs.Common.{None, drop, map}
use Rattle.cv_scene_view.specs.Kept.{scene_of}
use Rattle.cv_query_certificates.specs.SecretPairs.{secret_pairs_among}
use Rattle.cv_query_offences.specs.Copies.{copy_seen}
use Rattle.cv_query.specs.pairs.CopyPairs.{AreLeft, Goes}
use Rattle.cv_query.specs.pairs.Proved.{IsAsBefore}
use Rattle.cv_query.proofs.pairs.secrets.walk_copies.Given as goal

abbrev pub invariant-copies : goal.invariant-copies
invariant-copies l =
    let s = scene_of l.fn.work.pool l.fn.work.decls l.game in
    let trees = l.fn.work.pool.trees in
    record {
      before : IsAsBefore l.fn.work l.work;
      left : AreLeft trees l.left.parts;
      goes : Goes s l.raise trees l.fn.left.parts l.left.parts None (secret_pairs_among s l.raise (map (copy_seen trees) l.copies))
          (secret_pairs_among s l.raise (map (copy_seen trees) (drop l.k l.copies)));
    }
