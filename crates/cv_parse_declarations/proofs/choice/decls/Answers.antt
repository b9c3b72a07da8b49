use Rattle.std.proofs.Common.{sym}
use Rattle.cv_parse_declarations.proofs.Sequences.{decls_begin, decls_go, decls_done, decls_nearer}
use Rattle.cv_parse_declarations.proofs.choice.decls.Goals as goal

pub decls-init : goal.decls-init
decls-init c = decls_begin c.args.depth c.args.signs.now c.args.trail.now c.args.heard.now.items c.args.at c.requires.at

pub decls-preserved : goal.decls-preserved
decls-preserved c = decls_go c.args.depth c.args.signs.now _ _ _ _ _ _ _ _ _ c.decls.invariant (sym c.decls-test.ensures) c.in_ok-place.ensures.declares

pub decls-smaller : goal.decls-smaller
decls-smaller c = decls_nearer c.args.depth c.args.signs.now _ _ _ _ _ _ c.decls.invariant.read.within c.in_ok-place.ensures.declares

pub returns : goal.returns
returns c = record { declare = decls_done c.args.depth c.args.signs.now _ _ _ _ _ _ c.decls.invariant (sym c.decls-test.ensures) }
