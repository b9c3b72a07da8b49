use Rattle.std.proofs.Common.{arith}
use Rattle.cv_pool.proofs.Growth.{Grows_length, Grows_trans}
use Rattle.cv_step_writer.specs.Certificates.{IsSecretPairBelow}
use Rattle.cv_direct.proofs.Below.{pushed}
use Rattle.cv_direct.proofs.proposing.certificates.plant_secret_pairs.Goals as goal

pub loop-pair-preserved : goal.loop-pair-preserved
loop-pair-preserved c =
    let there = c.loop-pair in
    let grown = c.plant_secret_pair.ensures.grows in
    record {
      below = λ n h.
          let longer = Grows_length there.pool c.plant_secret_pair.new.pool grown in
          pushed (IsSecretPairBelow n) there.list.items c.push.new.self.items c.in_ok-next.next c.in_ok-push.ensures.items (there.invariant.below n (omega (arith, h, longer))) (c.in_ok-next.ensures.below n h);
      grows = Grows_trans c.args.pool.now there.pool c.plant_secret_pair.new.pool there.invariant.grows grown;
    }
