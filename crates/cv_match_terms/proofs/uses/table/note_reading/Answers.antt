use Rattle.std.proofs.Common.{ap, sym, ◌∙◌}
use Rattle.cv_match_terms.specs.uses.Tallies.{plus, tally_at}
use Rattle.cv_match_terms.proofs.uses.Joining.{plus_nothing, room_leaf, room_read, used_leaf, used_nothing, used_read}
use Rattle.cv_match_terms.proofs.uses.table.note_reading.Goals as goal
use Rattle.cv_directory.proofs.Noting.{on_ok}

pub note_use-requires : goal.note_use-requires
note_use-requires c = room_leaf c.in-Leaf.x (tally_at c.args.entries.now.items c.in-Leaf.x).uses c.args.head c.in-Leaf.is (c.requires c.in-Leaf.x)

pub returns-in-Leaf : goal.returns-in-Leaf
returns-in-Leaf c = on_ok c.note_use.result (λ o y. o y ∙ ap (plus (tally_at c.args.entries.now.items y)) (used_leaf c.in-Leaf.x y c.args.head c.in-Leaf.is)) c.note_use.ensures

pub note_use-requires-in-Read : goal.note_use-requires-in-Read
note_use-requires-in-Read c = room_read c.in-Read.x (tally_at c.args.entries.now.items c.in-Read.x).uses c.args.head c.in-Read.is (c.requires c.in-Read.x)

pub returns-in-Read : goal.returns-in-Read
returns-in-Read c = on_ok c.note_use-in-Read.result (λ o y. o y ∙ ap (plus (tally_at c.args.entries.now.items y)) (used_read c.in-Read.x y c.args.head c.in-Read.is)) c.note_use-in-Read.ensures

pub returns-in_default : goal.returns-in_default
returns-in_default c = λ y. sym (plus_nothing (tally_at c.args.entries.now.items y)) ∙ ap (plus (tally_at c.args.entries.now.items y)) (used_nothing y c.args.head c.in_default.not-Leaf c.in_default.not-Read)
