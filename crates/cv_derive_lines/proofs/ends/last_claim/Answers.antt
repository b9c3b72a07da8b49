use Rattle.std.proofs.Common.{length, ap, sym, ◌∙◌, Some}
use Rattle.std.specs.Prelude.{option_map}
use Rattle.cv_syntax.specs.PoolTrees.{tree_at}
use Rattle.cv_syntax.proofs.Trees.{child_live, empty_at}
use Rattle.cv_scene.specs.lines.Lines.{lines_of, statements}
use Rattle.cv_derive_lines.specs.Lasts.{last_behind}
use Rattle.cv_derive_lines.specs.Views.{statement_of}
use Rattle.cv_derive_lines.proofs.Ending.{no_statements, statements_at}
use Rattle.cv_derive_lines.proofs.ends.last_claim.Goals as goal

pub lines-preserved : goal.lines-preserved
lines-preserved c =
    let trees = c.args.pool.now.trees in
    let n = length trees in
    let node = c.read_node-node.result in
    let s = statements_at trees c.lines.at c.in-Some.n node c.in-Some.is c.read_node-node.ensures.tree c.line_of.result c.claim_of.result c.line_of.ensures.line c.claim_of.ensures.claim in
    record {
      live = child_live n c.lines.at c.in-Some.n node.second c.in-Some.is c.lines.invariant.live c.read_node-node.ensures.second;
      claim = c.claim_of.ensures.live n (c.line_of.ensures.live n (child_live n c.lines.at c.in-Some.n node.first c.in-Some.is c.lines.invariant.live c.read_node-node.ensures.first));
      same = sym (ap (last_behind (option_map (statement_of trees) c.lines.last)) s) ∙ c.lines.invariant.same;
    }

pub returns-clause-claim : goal.returns-clause-claim
returns-clause-claim c =
    let trees = c.args.pool.now.trees in
    sym (ap (last_behind (option_map (statement_of trees) c.lines.last)) (no_statements (tree_at trees c.lines.at) (empty_at trees c.lines.at c.in_default.is))) ∙ c.lines.invariant.same
