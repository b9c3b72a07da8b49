use Rattle.std.proofs.Common.{rules, ◌<◌, arith, length, subst}
use Rattle.cv_syntax.specs.PoolTrees.{tree_at}
use Rattle.cv_syntax.specs.Walks.{above}
use Rattle.cv_syntax.proofs.Trees.{child_above, child_live, empty_at}
use Rattle.cv_syntax.proofs.Walking.{above_child, above_some}
use Rattle.cv_derive_lines.specs.Views.{AreBelow}
use Rattle.cv_derive_lines.proofs.Fronts.{count_by, count_cases, count_none}
use Rattle.cv_derive_lines.proofs.lines.+count.Goals as goal

pub overflow_add-total : goal.overflow_add-total
overflow_add-total t c =
    let trees = c.args.pool.now.trees in
    let n = count_by trees c.lines.at c.in-Some.k c.read_node-node.result c.line_of.result c.in-Some.is c.read_node-node.ensures.tree c.line_of.ensures.line c.in-By.claim c.in-By.reason c.in-By.is in
    omega (arith, n, c.lines.invariant.same, c.requires.fits)

pub lines-preserved-in-By : goal.lines-preserved-in-By
lines-preserved-in-By t c =
    let trees = c.args.pool.now.trees in
    let n = count_by trees c.lines.at c.in-Some.k c.read_node-node.result c.line_of.result c.in-Some.is c.read_node-node.ensures.tree c.line_of.ensures.line c.in-By.claim c.in-By.reason c.in-By.is in
    record {
      live = child_live (length trees) c.lines.at c.in-Some.k c.read_node-node.result.second c.in-Some.is c.lines.invariant.live c.read_node-node.ensures.second;
      less = child_above _ c.lines.at c.in-Some.k c.read_node-node.result.second c.in-Some.is c.lines.invariant.less c.read_node-node.ensures.second;
      same = omega (arith, n, c.lines.invariant.same);
    }

pub count-total-requires : goal.count-total-requires
count-total-requires t c =
    let trees = c.args.pool.now.trees in
    let n = count_cases trees c.lines.at c.in-Some.k c.read_node-node.result c.line_of.result c.in-Some.is c.read_node-node.ensures.tree c.line_of.ensures.line c.in-Cases.condition c.in-Cases.first c.in-Cases.second c.in-Cases.conclusion c.in-Cases.is in
    let k = above_some c.lines.at c.in-Some.k c.in-Some.is in
    let l = subst (AreBelow c.in-Some.k.0) c.in-Cases.is (c.line_of.ensures.live c.in-Some.k.0 c.read_node-node.ensures.first) in
    let b = above_child c.in-Some.k.0 c.in-Cases.first l.1 in
    let less : above c.in-Cases.first < above c.args.lines = omega (arith, k, b, c.lines.invariant.less) in
    (search rules, (child_live (length trees) c.lines.at c.in-Some.k c.in-Cases.first c.in-Some.is c.lines.invariant.live l.1, omega (arith, n, c.lines.invariant.same, c.requires.fits)))

pub overflow_add-total-in-Cases : goal.overflow_add-total-in-Cases
overflow_add-total-in-Cases t c =
    let trees = c.args.pool.now.trees in
    let n = count_cases trees c.lines.at c.in-Some.k c.read_node-node.result c.line_of.result c.in-Some.is c.read_node-node.ensures.tree c.line_of.ensures.line c.in-Cases.condition c.in-Cases.first c.in-Cases.second c.in-Cases.conclusion c.in-Cases.is in
    omega (arith, n, c.lines.invariant.same, c.requires.fits, c.count-total.ensures)

pub count-total-requires-in-Cases : goal.count-total-requires-in-Cases
count-total-requires-in-Cases t c =
    let trees = c.args.pool.now.trees in
    let n = count_cases trees c.lines.at c.in-Some.k c.read_node-node.result c.line_of.result c.in-Some.is c.read_node-node.ensures.tree c.line_of.ensures.line c.in-Cases.condition c.in-Cases.first c.in-Cases.second c.in-Cases.conclusion c.in-Cases.is in
    let k = above_some c.lines.at c.in-Some.k c.in-Some.is in
    let l = subst (AreBelow c.in-Some.k.0) c.in-Cases.is (c.line_of.ensures.live c.in-Some.k.0 c.read_node-node.ensures.first) in
    let b = above_child c.in-Some.k.0 c.in-Cases.second l.2 in
    let less : above c.in-Cases.second < above c.args.lines = omega (arith, k, b, c.lines.invariant.less) in
    (search rules, (child_live (length trees) c.lines.at c.in-Some.k c.in-Cases.second c.in-Some.is c.lines.invariant.live l.2, omega (arith, n, c.lines.invariant.same, c.requires.fits)))

pub overflow_add-total-in-Cases-2 : goal.overflow_add-total-in-Cases-2
overflow_add-total-in-Cases-2 t c =
    let trees = c.args.pool.now.trees in
    let n = count_cases trees c.lines.at c.in-Some.k c.read_node-node.result c.line_of.result c.in-Some.is c.read_node-node.ensures.tree c.line_of.ensures.line c.in-Cases.condition c.in-Cases.first c.in-Cases.second c.in-Cases.conclusion c.in-Cases.is in
    omega (arith, n, c.lines.invariant.same, c.requires.fits, c.count-total.ensures, c.count-total-in-Cases.ensures)

pub overflow_add-total-in-Cases-3 : goal.overflow_add-total-in-Cases-3
overflow_add-total-in-Cases-3 t c =
    let trees = c.args.pool.now.trees in
    let n = count_cases trees c.lines.at c.in-Some.k c.read_node-node.result c.line_of.result c.in-Some.is c.read_node-node.ensures.tree c.line_of.ensures.line c.in-Cases.condition c.in-Cases.first c.in-Cases.second c.in-Cases.conclusion c.in-Cases.is in
    omega (arith, n, c.lines.invariant.same, c.requires.fits, c.count-total.ensures, c.count-total-in-Cases.ensures)

pub lines-preserved : goal.lines-preserved
lines-preserved t c =
    let trees = c.args.pool.now.trees in
    let n = count_cases trees c.lines.at c.in-Some.k c.read_node-node.result c.line_of.result c.in-Some.is c.read_node-node.ensures.tree c.line_of.ensures.line c.in-Cases.condition c.in-Cases.first c.in-Cases.second c.in-Cases.conclusion c.in-Cases.is in
    record {
      live = child_live (length trees) c.lines.at c.in-Some.k c.read_node-node.result.second c.in-Some.is c.lines.invariant.live c.read_node-node.ensures.second;
      less = child_above _ c.lines.at c.in-Some.k c.read_node-node.result.second c.in-Some.is c.lines.invariant.less c.read_node-node.ensures.second;
      same = omega (arith, n, c.lines.invariant.same, c.count-total.ensures, c.count-total-in-Cases.ensures);
    }

pub returns : goal.returns
returns t c =
    let trees = c.args.pool.now.trees in
    let n = count_none (tree_at trees c.lines.at) (empty_at trees c.lines.at c.in_default.is) in
    omega (arith, n, c.lines.invariant.same)
