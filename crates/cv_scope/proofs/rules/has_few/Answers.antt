use Rattle.std.proofs.Common.{◌≤◌, ◌<◌, sym, arith}
use Rattle.std.proofs.lemmas.Bool.{le-ltb, lt-ltb}
use Rattle.cv_syntax.specs.PoolTrees.{tree_at}
use Rattle.cv_syntax_trees.specs.sites.Counting.{count}
use Rattle.cv_syntax_trees.proofs.sites.Counting.{count_end, count_step}
use Rattle.cv_syntax.proofs.Trees.{child_live, empty_at, node_at}
use Rattle.cv_scope.proofs.rules.has_few.Goals as goal

pub returns-then-items-eq-TOO_MANY : goal.returns-then-items-eq-TOO_MANY
returns-then-items-eq-TOO_MANY c =
    let trees = c.args.pool.now.trees in
    let node = c.read_node-at.result in
    let step = count_step (tree_at trees c.list.at) node.head (tree_at trees node.first) (tree_at trees node.second) (node_at trees c.list.at c.in-Some.k node c.in-Some.is c.read_node-at.ensures.tree) in
    let many : 9 ≤ count (tree_at trees c.args.list) = omega (arith, step, c.list.invariant.sum, c.if-items-eq-TOO_MANY.true) in
    sym (le-ltb (count (tree_at trees c.args.list)) 9 many)

pub list-preserved : goal.list-preserved
list-preserved c =
    let trees = c.args.pool.now.trees in
    let node = c.read_node-at.result in
    let step = count_step (tree_at trees c.list.at) node.head (tree_at trees node.first) (tree_at trees node.second) (node_at trees c.list.at c.in-Some.k node c.in-Some.is c.read_node-at.ensures.tree) in
    record {
      live = child_live _ c.list.at c.in-Some.k node.second c.in-Some.is c.list.invariant.live c.read_node-at.ensures.second;
      few = omega (arith, c.list.invariant.few, c.if-items-eq-TOO_MANY.false);
      sum = omega (arith, step, c.list.invariant.sum);
    }

pub returns : goal.returns
returns c =
    let end = count_end (tree_at c.args.pool.now.trees c.list.at) (empty_at c.args.pool.now.trees c.list.at c.in_default.is) in
    let few : count (tree_at c.args.pool.now.trees c.args.list) < 9 = omega (arith, end, c.list.invariant.sum, c.list.invariant.few) in
    sym (lt-ltb (count (tree_at c.args.pool.now.trees c.args.list)) 9 few)
