use Rattle.std.proofs.Common.{refl, ◌∙◌}
use Rattle.std.specs.Vec.{with_item}
use Rattle.cv_directory.specs.Tables.{definition_in, entries_in}
use Rattle.cv_directory.proofs.Entries.{one_more}
use Rattle.cv_directory.proofs.Noting.{definition_noted}
use Rattle.cv_directory.proofs.directory.Directory.note.Goals as goal

pub returns-clause-entries : goal.returns-clause-entries
returns-clause-entries c = λ trees large h.
    definition_noted trees c.args.self.now (record { entries = with_item c.reach.new.entries c.args.x c.note_definition.new.entry; untyped = c.args.self.now.untyped }) c.reach.new.entries.items c.args.x c.note_definition.new.entry c.index_mut.result.now (definition_in trees c.args.path.now c.args.place c.args.node c.args.sort) c.args.is_other_here c.in_ok-reach.ensures.reached c.in_ok-reach.ensures.same refl c.index_mut.ensures.value (c.in_ok-note_definition.ensures.first trees) c.in_ok-note_definition.ensures.count c.in_ok-note_definition.ensures.other c.in_ok-note_definition.ensures.index
    ∙ one_more large (entries_in trees c.args.self.now) c.args.x (definition_in trees c.args.path.now c.args.place c.args.node c.args.sort) c.args.is_other_here h
