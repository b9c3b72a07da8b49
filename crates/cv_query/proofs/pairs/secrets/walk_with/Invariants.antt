use Rattle.std.proofs.Common.{None, drop, map}
use Rattle.std.specs.Prelude.{flat_map}
use Rattle.cv_scene_view.specs.Kept.{scene_of}
use Rattle.cv_query_certificates.specs.SecretPairs.{secret_pair}
use Rattle.cv_query_offences.specs.Copies.{copy_seen}
use Rattle.cv_query.specs.pairs.CopyPairs.{AreLeft, Goes}
use Rattle.cv_query.specs.pairs.Proved.{IsAsBefore}
use Rattle.cv_query.proofs.pairs.secrets.walk_with.Given as goal

abbrev pub invariant-others : goal.invariant-others
invariant-others l =
    let s = scene_of l.fn.work.pool l.fn.work.decls l.game in
    let trees = l.fn.work.pool.trees in
    record {
      before : IsAsBefore l.fn.work l.work;
      left : AreLeft trees l.left.parts;
      goes : Goes s l.raise trees l.fn.left.parts l.left.parts None (flat_map (secret_pair s l.raise (copy_seen trees l.one)) (map (copy_seen trees) l.others))
          (flat_map (secret_pair s l.raise (copy_seen trees l.one)) (map (copy_seen trees) (drop l.k l.others)));
    }
