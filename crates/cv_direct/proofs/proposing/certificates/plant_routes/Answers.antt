use Rattle.std.proofs.Common.{arith}
use Rattle.cv_pool.proofs.Growth.{Grows_length, Grows_trans}
use Rattle.cv_step_writer.specs.Certificates.{IsRouteBelow}
use Rattle.cv_direct.proofs.Below.{pushed}
use Rattle.cv_direct.proofs.proposing.certificates.plant_routes.Goals as goal

pub loop-route-preserved : goal.loop-route-preserved
loop-route-preserved c =
    let there = c.loop-route in
    let grown = c.plant_route.ensures.grows in
    record {
      below = λ n h.
          let longer = Grows_length there.pool c.plant_route.new.pool grown in
          pushed (IsRouteBelow n) there.list.items c.push.new.self.items c.in_ok-next.next c.in_ok-push.ensures.items (there.invariant.below n (omega (arith, h, longer))) (c.in_ok-next.ensures.below n h);
      grows = Grows_trans c.args.pool.now there.pool c.plant_route.new.pool there.invariant.grows grown;
    }
