use Rattle.std.proofs.Common.{arith, ◌∙◌}
use Rattle.cv_syntax.specs.PoolTrees.{tree_at}
use Rattle.cv_scene.specs.lines.Lines.{lines_of}
use Rattle.cv_derive_lines.proofs.citing.Looking.{found_at, found_behind}
use Rattle.cv_derive_lines.proofs.citing.citing.cited_claim.Goals as goal

pub returns-then-line-l-clause-claim : goal.returns-then-line-l-clause-claim
returns-then-line-l-clause-claim c =
    let trees = c.args.pool.now.trees in
    let citing = c.args.citing.now in
    let line = c.in-Some.line in
    let k = c.in-Some.ensures trees (lines_of (tree_at trees citing.lines)) citing.number c.requires.kept in
    found_at trees (lines_of (tree_at trees citing.lines)) citing.number line.number line.claim line.behind k.1 c.args.l k.0 c.if-line-l.true

pub returns-then-line-l-clause-live : goal.returns-then-line-l-clause-live
returns-then-line-l-clause-live c =
    let trees = c.args.pool.now.trees in
    let citing = c.args.citing.now in
    (c.in-Some.ensures trees (lines_of (tree_at trees citing.lines)) citing.number c.requires.kept).1.claim_live

pub overflow_add-line : goal.overflow_add-line
overflow_add-line c =
    let trees = c.args.pool.now.trees in
    let citing = c.args.citing.now in
    let k = (c.in-Some.ensures trees (lines_of (tree_at trees citing.lines)) citing.number c.requires.kept).1.fits in
    omega (arith, k)

pub claim_in-requires-2-clause-live : goal.claim_in-requires-2-clause-live
claim_in-requires-2-clause-live c =
    let trees = c.args.pool.now.trees in
    let citing = c.args.citing.now in
    (c.in-Some.ensures trees (lines_of (tree_at trees citing.lines)) citing.number c.requires.kept).1.behind_live

pub claim_in-requires-2-clause-fits : goal.claim_in-requires-2-clause-fits
claim_in-requires-2-clause-fits c =
    let trees = c.args.pool.now.trees in
    let citing = c.args.citing.now in
    (c.in-Some.ensures trees (lines_of (tree_at trees citing.lines)) citing.number c.requires.kept).1.fits

pub returns-clause-claim : goal.returns-clause-claim
returns-clause-claim c =
    let trees = c.args.pool.now.trees in
    let citing = c.args.citing.now in
    let line = c.in-Some.line in
    let k = c.in-Some.ensures trees (lines_of (tree_at trees citing.lines)) citing.number c.requires.kept in
    c.claim_in-2.ensures.claim ∙ found_behind trees (lines_of (tree_at trees citing.lines)) citing.number line.number line.claim line.behind k.1 c.args.l k.0 c.if-line-l.false
