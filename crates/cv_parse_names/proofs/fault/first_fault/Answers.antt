use Rattle.std.proofs.Common.{Some, ap, sym, ◌∙◌, arith}
use Rattle.cv_parse_names.proofs.Reading.{reading_ends, reading_faulty, reading_noted, reading_starts}
use Rattle.cv_parse_names.proofs.fault.first_fault.Goals as goal

pub uses-init : goal.uses-init
uses-init c = reading_starts c.args.uses.now c.args.table.items c.requires

pub index-entry-requires : goal.index-entry-requires
index-entry-requires c = let h = c.uses.invariant.covers c.uses.at c.uses-test.true in omega arith

pub returns-then-not-obeys : goal.returns-then-not-obeys
returns-then-not-obeys c =
    ap Some c.broken.ensures
    ∙ sym (reading_faulty c.args.uses.now c.uses.at c.uses.table.items c.uses.scope c.index-entry.result.now c.role_behind-next.result c.obeys.result c.uses-test.true c.uses.invariant c.index-entry.ensures c.role_behind-next.ensures c.obeys.ensures c.if-not-obeys.true)

pub uses-preserved : goal.uses-preserved
uses-preserved c = reading_noted c.args.uses.now c.uses.at c.uses.table.items c.uses.scope c.follow-scope.result c.index-entry.result.now c.note.result c.role_behind-next.result c.obeys.result c.uses-test.true c.uses.invariant c.index-entry.ensures c.role_behind-next.ensures c.obeys.ensures c.if-not-obeys.false c.note.ensures c.follow-scope.ensures

pub returns : goal.returns
returns c = sym (reading_ends c.args.uses.now c.uses.at c.uses.table.items c.uses.scope c.uses-test.false c.uses.invariant)
