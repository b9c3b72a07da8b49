use Rattle.std.proofs.Common.{◌≡◌, length, ap, arith}
use Rattle.cv_syntax.specs.PoolTrees.{tree_at}
use Rattle.cv_syntax.proofs.Trees.{child_live, empty_at}
use Rattle.cv_scene.specs.lines.Lines.{lines_of, statements}
use Rattle.cv_derive_lines.proofs.Ending.{length_behind, no_statements}
use Rattle.cv_derive_lines.proofs.ends.outer.Goals as goal

pub overflow_add-total : goal.overflow_add-total
overflow_add-total c =
    let trees = c.args.pool.now.trees in
    let n = length_behind trees c.lines.at c.in-Some.k c.read_node-node.result c.in-Some.is c.read_node-node.ensures.tree in
    omega (arith, n, c.lines.invariant.same, c.requires.fits)

pub lines-preserved : goal.lines-preserved
lines-preserved c =
    let trees = c.args.pool.now.trees in
    let n = length_behind trees c.lines.at c.in-Some.k c.read_node-node.result c.in-Some.is c.read_node-node.ensures.tree in
    record {
      live = child_live (length trees) c.lines.at c.in-Some.k c.read_node-node.result.second c.in-Some.is c.lines.invariant.live c.read_node-node.ensures.second;
      same = omega (arith, n, c.lines.invariant.same);
    }

pub returns : goal.returns
returns c =
    let trees = c.args.pool.now.trees in
    let n : length (statements (lines_of (tree_at trees c.lines.at))) ≡ 0 = ap length (no_statements (tree_at trees c.lines.at) (empty_at trees c.lines.at c.in_default.is)) in
    omega (arith, n, c.lines.invariant.same)
