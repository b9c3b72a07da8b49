use Rattle.std.proofs.Common.{None, length, sym, ◌∙◌}
use Rattle.cv_syntax.specs.PoolTrees.{tree_at}
use Rattle.cv_syntax.proofs.Trees.{child_live, empty_at, tree_at_None}
use Rattle.cv_scene.specs.lines.Lines.{lines_of, statements}
use Rattle.cv_derive_lines.proofs.Ending.{no_statements, skip_behind, skip_none, statements_behind}
use Rattle.cv_derive_lines.proofs.ends.skip.Goals as goal

pub lines-preserved : goal.lines-preserved
lines-preserved c =
    let trees = c.args.pool.now.trees in
    let n = statements_behind trees c.lines.at c.in-Some.n c.read_node-at.result c.in-Some.is c.read_node-at.ensures.tree in
    record {
      live = child_live (length trees) c.lines.at c.in-Some.n c.read_node-at.result.second c.in-Some.is c.lines.invariant.live c.read_node-at.ensures.second;
      same = skip_behind c.lines.left _ _ (statements (lines_of (tree_at trees c.lines.at))) n c.if-left-eq0.false ∙ c.lines.invariant.same;
    }

pub returns-clause-lines : goal.returns-clause-lines
returns-clause-lines c =
    let trees = c.args.pool.now.trees in
    no_statements (tree_at trees None) (tree_at_None trees)
    ∙ (sym (skip_none c.lines.left (statements (lines_of (tree_at trees c.lines.at))) (no_statements (tree_at trees c.lines.at) (empty_at trees c.lines.at c.in_default.is))) ∙ c.lines.invariant.same)
