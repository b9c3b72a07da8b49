use Rattle.std.proofs.Common.{◌+◌, ap, arith, length, sym, ◌∙◌}
use Rattle.cv_syntax.specs.NameSets.{is_in}
use Rattle.cv_syntax.specs.PoolTrees.{tree_at}
use Rattle.cv_syntax.proofs.Trees.{child_live, empty_at, node_at}
use Rattle.cv_syntax.proofs.Walking.{size_at, size_end}
use Rattle.cv_rule_pick.specs.Picking.{first_cell}
use Rattle.cv_rule_pick.proofs.Listing.{cell_end, cell_rest}
use Rattle.cv_rule_pick.proofs.others.cell_among.Goals as goal

pub overflow_add-here : goal.overflow_add-here
overflow_add-here c =
    let s = size_at c.args.pool.now.trees c.cells.at c.in-Some.k c.read_node-node.result c.in-Some.is c.read_node-node.ensures.tree in
    omega (arith, s, c.cells.invariant.sum, c.requires.fits, c.weight.ensures.weight)

pub size_below-requires-clause-fits : goal.size_below-requires-clause-fits
size_below-requires-clause-fits c =
    let s = size_at c.args.pool.now.trees c.cells.at c.in-Some.k c.read_node-node.result c.in-Some.is c.read_node-node.ensures.tree in
    omega (arith, s, c.cells.invariant.sum, c.requires.fits)

pub overflow_add-place : goal.overflow_add-place
overflow_add-place c =
    let s = size_at c.args.pool.now.trees c.cells.at c.in-Some.k c.read_node-node.result c.in-Some.is c.read_node-node.ensures.tree in
    omega (arith, s, c.cells.invariant.sum, c.requires.fits, c.weight.ensures.weight, c.size_below.ensures)

pub cells-preserved : goal.cells-preserved
cells-preserved c =
    let trees = c.args.pool.now.trees in
    let xs = is_in c.args.names.now in
    let node = c.read_node-node.result in
    let e = node_at trees c.cells.at c.in-Some.k node c.in-Some.is c.read_node-node.ensures.tree in
    let s = size_at trees c.cells.at c.in-Some.k node c.in-Some.is c.read_node-node.ensures.tree in
    let q = ap (λ n. c.cells.place + n + c.size_below.result) c.weight.ensures.weight ∙ ap (λ n. c.cells.place + Rattle.cv_syntax_trees.specs.Head.weight node.head + n) c.size_below.ensures in
    record {
      live = child_live (length trees) c.cells.at c.in-Some.k node.second c.in-Some.is c.cells.invariant.live c.read_node-node.ensures.second;
      sum = omega (arith, s, q, c.cells.invariant.sum);
      same = ap (λ n. first_cell xs n (tree_at trees node.second)) q ∙ (cell_rest xs c.cells.place (tree_at trees c.cells.at) node.head (tree_at trees node.first) (tree_at trees node.second) c.is_one.result e c.is_one.ensures c.if-is_one.false ∙ c.cells.invariant.same);
    }

pub returns-clause-none : goal.returns-clause-none
returns-clause-none c = sym c.cells.invariant.same ∙ cell_end (is_in c.args.names.now) c.cells.place (tree_at c.args.pool.now.trees c.cells.at) (empty_at c.args.pool.now.trees c.cells.at c.in_default.is)

pub returns-clause-next : goal.returns-clause-next
returns-clause-next c = omega (arith, c.cells.invariant.sum, size_end c.args.pool.now.trees c.cells.at c.in_default.is)
