use Rattle.std.proofs.Common.{refl}
use Rattle.std.specs.Vec.{with_item}
use Rattle.cv_match_terms.specs.uses.Tallies.{Zero, tally}
use Rattle.cv_match_terms.proofs.uses.Joining.{written}
use Rattle.cv_match_terms.proofs.uses.table.note_use.Goals as goal

pub returns : goal.returns
returns c =
    written c.args.entries.now.items c.reach.new.entries.items (with_item c.reach.new.entries c.args.x c.add_use.new.entry).items c.args.x c.add_use.new.entry c.index_mut.result.now (tally 1 Zero) c.in_ok-reach.ensures.reached c.in_ok-reach.ensures.same refl c.index_mut.ensures.value c.add_use.ensures
