use Rattle.std.proofs.Common.{arith}
use Rattle.cv_pool.proofs.Growth.{Grows_length, Grows_trans}
use Rattle.cv_step_writer.specs.Certificates.{IsEntryBelow}
use Rattle.cv_direct.proofs.Below.{pushed}
use Rattle.cv_direct.proofs.proposing.certificates.plant_entries.Goals as goal

pub loop-entry-preserved : goal.loop-entry-preserved
loop-entry-preserved c =
    let there = c.loop-entry in
    let grown = c.plant_entry.ensures.grows in
    record {
      below = λ n h.
          let longer = Grows_length there.pool c.plant_entry.new.pool grown in
          pushed (IsEntryBelow n) there.list.items c.push.new.self.items c.in_ok-next.next c.in_ok-push.ensures.items (there.invariant.below n (omega (arith, h, longer))) (c.in_ok-next.ensures.below n h);
      grows = Grows_trans c.args.pool.now there.pool c.plant_entry.new.pool there.invariant.grows grown;
    }
