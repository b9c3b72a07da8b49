use Rattle.std.proofs.Common.{refl, length}
use Rattle.cv_syntax.specs.PoolTrees.{tree_at}
use Rattle.cv_scene.specs.lines.Inferences.{number_of, cell_in}
use Rattle.cv_derive_lines.specs.citing.Bookmarks.{visible_to}
use Rattle.cv_derive_lines.proofs.citing.Saying.{said_none, said_some}
use Rattle.cv_derive_lines.proofs.citing.citing.cited_cell.Goals as goal

pub returns-in_default-clause-cell : goal.returns-in_default-clause-cell
returns-in_default-clause-cell c =
    let trees = c.args.pool.now.trees in
    said_none cell_in trees c.cited_claim.result (visible_to trees c.args.citing.now) c.number-k.result (number_of (tree_at trees c.args.line)) c.cited_claim.ensures.claim c.number-k.ensures refl c.in_default.is

pub returns-clause-cell : goal.returns-clause-cell
returns-clause-cell c =
    let trees = c.args.pool.now.trees in
    said_some cell_in trees c.cited_claim.result (visible_to trees c.args.citing.now) c.number-k.result (number_of (tree_at trees c.args.line)) c.cited_claim.ensures.claim c.number-k.ensures c.in-Some.claim (tree_at trees c.cell_of.result) c.in-Some.is (c.cell_of.ensures.cell trees)

pub returns-clause-live : goal.returns-clause-live
returns-clause-live c = c.cell_of.ensures.live (length c.args.pool.now.trees) c.in-Some.ensures.live
