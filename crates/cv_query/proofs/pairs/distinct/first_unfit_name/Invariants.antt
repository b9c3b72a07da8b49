use Rattle.std.proofs.Common.{◌≡◌, [], drop, reverse, take}
use Rattle.cv_scene_view.specs.Kept.{scene_of}
use Rattle.cv_query_certificates.specs.PairParts as parts
use Rattle.cv_query.proofs.pairs.distinct.first_unfit_name.Given as goal

abbrev pub invariant-names : goal.invariant-names
invariant-names l =
    let s = scene_of l.work.pool l.work.decls l.game in
    parts.first_unfit_name s (reverse (take l.k l.names)) (drop l.k l.names) ≡ parts.first_unfit_name s [] l.names
