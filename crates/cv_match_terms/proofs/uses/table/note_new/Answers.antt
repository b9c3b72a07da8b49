use Rattle.std.proofs.Common.{refl}
use Rattle.std.specs.Vec.{with_item}
use Rattle.cv_match_terms.specs.uses.Tallies.{One, tally}
use Rattle.cv_match_terms.proofs.uses.Joining.{written}
use Rattle.cv_match_terms.proofs.uses.table.note_new.Goals as goal

pub returns : goal.returns
returns c =
    written c.args.entries.now.items c.reach.new.entries.items (with_item c.reach.new.entries c.args.x c.add_new.new.entry).items c.args.x c.add_new.new.entry c.index_mut.result.now (tally 0 (One c.args.t c.args.passed.now)) c.in_ok-reach.ensures.reached c.in_ok-reach.ensures.same refl c.index_mut.ensures.value c.in_ok-add_new.ensures
