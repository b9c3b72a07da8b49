use Rattle.std.proofs.Common.{length, sym, ◌∙◌}
use Rattle.cv_syntax.specs.PoolTrees.{tree_at}
use Rattle.cv_syntax.proofs.Trees.{child_live, empty_at}
use Rattle.cv_scene.specs.lines.Lines.{Holds, lines_of, statements}
use Rattle.cv_derive_lines.specs.Views.{statement_of}
use Rattle.cv_derive_lines.proofs.Ending.{last_more, last_none, last_one, no_statements, statements_at}
use Rattle.cv_derive_lines.proofs.ends.ends_in.Goals as goal

pub same_claim-requires-clause-left : goal.same_claim-requires-clause-left
same_claim-requires-clause-left c =
    let n = length c.args.pool.now.trees in
    c.claim_of-claim.ensures.live n (c.line_of.ensures.live n (child_live n c.lines.at c.in-Some.n c.read_node-node.result.first c.in-Some.is c.lines.invariant.live c.read_node-node.ensures.first))

pub returns-then-is_empty : goal.returns-then-is_empty
returns-then-is_empty c =
    let trees = c.args.pool.now.trees in
    let s = statements_at trees c.lines.at c.in-Some.n c.read_node-node.result c.in-Some.is c.read_node-node.ensures.tree c.line_of.result c.claim_of-claim.result c.line_of.ensures.line c.claim_of-claim.ensures.claim in
    c.same_claim.ensures
    ∙ (sym (last_one (statements (lines_of (tree_at trees c.lines.at))) (statements (lines_of (tree_at trees c.read_node-node.result.second))) (statement_of trees c.claim_of-claim.result) (Holds (tree_at trees c.args.term)) s (no_statements (tree_at trees c.read_node-node.result.second) (c.is_empty.ensures.empty.0 c.if-is_empty.true))) ∙ c.lines.invariant.same)

pub lines-preserved : goal.lines-preserved
lines-preserved c =
    let trees = c.args.pool.now.trees in
    let s = statements_at trees c.lines.at c.in-Some.n c.read_node-node.result c.in-Some.is c.read_node-node.ensures.tree c.line_of.result c.claim_of-claim.result c.line_of.ensures.line c.claim_of-claim.ensures.claim in
    record {
      live = child_live (length trees) c.lines.at c.in-Some.n c.read_node-node.result.second c.in-Some.is c.lines.invariant.live c.read_node-node.ensures.second;
      same = last_more (statements (lines_of (tree_at trees c.lines.at))) (tree_at trees c.read_node-node.result.second) (statement_of trees c.claim_of-claim.result) (Holds (tree_at trees c.args.term)) s (sym c.is_empty.ensures.test ∙ c.if-is_empty.false) ∙ c.lines.invariant.same;
    }

pub returns : goal.returns
returns c =
    let trees = c.args.pool.now.trees in
    sym (last_none (statements (lines_of (tree_at trees c.lines.at))) (Holds (tree_at trees c.args.term)) (no_statements (tree_at trees c.lines.at) (empty_at trees c.lines.at c.in_default.is))) ∙ c.lines.invariant.same
