use Rattle.std.proofs.Common.{refl, length}
use Rattle.cv_syntax.specs.PoolTrees.{tree_at}
use Rattle.cv_scene.specs.lines.Inferences.{number_of, term_in}
use Rattle.cv_derive_lines.specs.citing.Bookmarks.{visible_to}
use Rattle.cv_derive_lines.proofs.citing.Saying.{said_none, said_some}
use Rattle.cv_derive_lines.proofs.citing.citing.cited_term.Goals as goal

pub returns-in_default-clause-term : goal.returns-in_default-clause-term
returns-in_default-clause-term c =
    let trees = c.args.pool.now.trees in
    said_none term_in trees c.cited_claim.result (visible_to trees c.args.citing.now) c.number-k.result (number_of (tree_at trees c.args.line)) c.cited_claim.ensures.claim c.number-k.ensures refl c.in_default.is

pub returns-clause-term : goal.returns-clause-term
returns-clause-term c =
    let trees = c.args.pool.now.trees in
    said_some term_in trees c.cited_claim.result (visible_to trees c.args.citing.now) c.number-k.result (number_of (tree_at trees c.args.line)) c.cited_claim.ensures.claim c.number-k.ensures c.in-Some.claim (tree_at trees c.term_of.result) c.in-Some.is (c.term_of.ensures.term trees)

pub returns-clause-live : goal.returns-clause-live
returns-clause-live c = c.term_of.ensures.live (length c.args.pool.now.trees) c.in-Some.ensures.live
