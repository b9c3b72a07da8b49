use Rattle.std.proofs.Common.{ap, arith, length, length-take, take}
use Rattle.cv_syntax.specs.PoolTrees.{tree_at}
use Rattle.cv_scene_view.specs.Kept.{scene_of}
use Rattle.cv_costs.proofs.CertificateCosts.{at_most_each, few_distinct}
use Rattle.cv_costs.proofs.certificates.cost_of_certificate.Goals as goal

pub of-requires : goal.of-requires
of-requires c =
    let w = c.args.work.now in
    let names = c.in_ok-names.names.items in
    let front = take c.names.k names in
    omega (
      arith,
      ap length c.names.invariant,
      at_most_each (scene_of w.pool w.decls c.args.game) front,
      length-take c.names.k names,
      ap length c.in_ok-names.ensures,
      few_distinct (tree_at w.pool.trees c.args.certificate),
      c.requires.few,
    )
