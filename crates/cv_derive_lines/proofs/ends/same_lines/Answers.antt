use Rattle.std.proofs.Common.{length, sym, ◌∙◌}
use Rattle.cv_syntax.specs.PoolTrees.{tree_at}
use Rattle.cv_syntax.proofs.Trees.{child_live, empty_at}
use Rattle.cv_scene.specs.lines.Lines.{lines_of, statements}
use Rattle.cv_derive_lines.specs.Views.{statement_of}
use Rattle.cv_derive_lines.proofs.Ending.{no_statements, same_end, same_first, same_rest, same_short, statements_at, statements_behind}
use Rattle.cv_derive_lines.proofs.ends.same_lines.Goals as goal

pub same_claim-requires-clause-left : goal.same_claim-requires-clause-left
same_claim-requires-clause-left c =
    let n = length c.args.pool.now.trees in
    c.claim_of-left.ensures.live n (c.line_of.ensures.live n (child_live n c.lines.at c.in-Some.n c.read_node-line.result.first c.in-Some.is c.lines.invariant.live c.read_node-line.ensures.first))

pub same_claim-requires-clause-right : goal.same_claim-requires-clause-right
same_claim-requires-clause-right c =
    let n = length c.args.pool.now.trees in
    c.claim_of-right.ensures.live n (c.line_of-in-Some.ensures.live n (child_live n c.lines.behind c.in-Some-behind.k c.read_node-target.result.first c.in-Some-behind.is c.lines.invariant.behind c.read_node-target.ensures.first))

pub returns-then-not-same_claim : goal.returns-then-not-same_claim
returns-then-not-same_claim c =
    let trees = c.args.pool.now.trees in
    sym (same_first (statements (lines_of (tree_at trees c.lines.at))) (statements (lines_of (tree_at trees c.lines.behind))) (statement_of trees c.claim_of-left.result) (statement_of trees c.claim_of-right.result) (statements (lines_of (tree_at trees c.read_node-line.result.second))) (statements (lines_of (tree_at trees c.read_node-target.result.second))) c.same_claim.result (statements_at trees c.lines.at c.in-Some.n c.read_node-line.result c.in-Some.is c.read_node-line.ensures.tree c.line_of.result c.claim_of-left.result c.line_of.ensures.line c.claim_of-left.ensures.claim) (statements_at trees c.lines.behind c.in-Some-behind.k c.read_node-target.result c.in-Some-behind.is c.read_node-target.ensures.tree c.line_of-in-Some.result c.claim_of-right.result c.line_of-in-Some.ensures.line c.claim_of-right.ensures.claim) c.same_claim.ensures c.if-not-same_claim.true) ∙ c.lines.invariant.same

pub lines-preserved : goal.lines-preserved
lines-preserved c =
    let trees = c.args.pool.now.trees in
    record {
      live = child_live (length trees) c.lines.at c.in-Some.n c.read_node-line.result.second c.in-Some.is c.lines.invariant.live c.read_node-line.ensures.second;
      behind = child_live (length trees) c.lines.behind c.in-Some-behind.k c.read_node-target.result.second c.in-Some-behind.is c.lines.invariant.behind c.read_node-target.ensures.second;
      same = same_rest (statements (lines_of (tree_at trees c.lines.at))) (statements (lines_of (tree_at trees c.lines.behind))) (statement_of trees c.claim_of-left.result) (statement_of trees c.claim_of-right.result) (statements (lines_of (tree_at trees c.read_node-line.result.second))) (statements (lines_of (tree_at trees c.read_node-target.result.second))) c.same_claim.result (statements_at trees c.lines.at c.in-Some.n c.read_node-line.result c.in-Some.is c.read_node-line.ensures.tree c.line_of.result c.claim_of-left.result c.line_of.ensures.line c.claim_of-left.ensures.claim) (statements_at trees c.lines.behind c.in-Some-behind.k c.read_node-target.result c.in-Some-behind.is c.read_node-target.ensures.tree c.line_of-in-Some.result c.claim_of-right.result c.line_of-in-Some.ensures.line c.claim_of-right.ensures.claim) c.same_claim.ensures c.if-not-same_claim.false ∙ c.lines.invariant.same;
    }

pub returns : goal.returns
returns c =
    let trees = c.args.pool.now.trees in
    sym (same_end (statements (lines_of (tree_at trees c.lines.at))) (tree_at trees c.lines.behind) c.is_empty.result (no_statements (tree_at trees c.lines.at) (empty_at trees c.lines.at c.in_default.is)) c.is_empty.ensures.test) ∙ c.lines.invariant.same

pub returns-in_default-behind : goal.returns-in_default-behind
returns-in_default-behind c =
    let trees = c.args.pool.now.trees in
    sym (same_short (statements (lines_of (tree_at trees c.lines.at))) (statements (lines_of (tree_at trees c.lines.behind))) _ _ (statements_behind trees c.lines.at c.in-Some.n c.read_node-line.result c.in-Some.is c.read_node-line.ensures.tree) (no_statements (tree_at trees c.lines.behind) (empty_at trees c.lines.behind c.in_default-behind.is))) ∙ c.lines.invariant.same
