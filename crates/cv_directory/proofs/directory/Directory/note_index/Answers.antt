use Rattle.std.proofs.Common.{refl}
use Rattle.std.specs.Vec.{with_item}
use Rattle.cv_directory.proofs.Noting.{index_noted}
use Rattle.cv_directory.proofs.directory.Directory.note_index.Goals as goal

pub returns-clause-entries : goal.returns-clause-entries
returns-clause-entries c = λ trees.
    index_noted trees c.args.self.now (record { entries = with_item c.reach.new.entries c.args.i c.note_parameter.new.entry; untyped = c.args.self.now.untyped }) c.reach.new.entries.items c.args.i c.note_parameter.new.entry c.index_mut.result.now c.args.n c.in_ok-reach.ensures.reached c.in_ok-reach.ensures.same refl c.index_mut.ensures.value c.note_parameter.ensures.site c.note_parameter.ensures.count c.note_parameter.ensures.other c.note_parameter.ensures.index
