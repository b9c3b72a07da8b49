use Rattle.std.proofs.Common.{refl}
use Rattle.std.specs.Vec.{with_item}
use Rattle.cv_match_terms.specs.uses.Tallies.{Other, tally}
use Rattle.cv_match_terms.proofs.uses.Joining.{written}
use Rattle.cv_match_terms.proofs.uses.table.note_other.Goals as goal

pub returns : goal.returns
returns c =
    written c.args.entries.now.items c.reach.new.entries.items (with_item c.reach.new.entries c.args.x c.add_other.new.entry).items c.args.x c.add_other.new.entry c.index_mut.result.now (tally 0 Other) c.in_ok-reach.ensures.reached c.in_ok-reach.ensures.same refl c.index_mut.ensures.value c.add_other.ensures
