use Rattle.std.proofs.Common.{rules, arith, ◌+◌, ◌<◌, Some}
use Rattle.cv_syntax.proofs.Walking.{size_at, size_same, size_end, below_some}
use Rattle.cv_syntax.proofs.walk.+size.Goals as goal

pub overflow_add-total : goal.overflow_add-total
overflow_add-total t c = omega (arith, size_at c.args.pool.now.trees c.chain.at c.in-Some.k c.read_node-node.result c.in-Some.is c.read_node-node.ensures.tree)

pub size-total-requires : goal.size-total-requires
size-total-requires t c =
    let here : c.in-Some.k.0 < c.args.n.0 + 1 = below_some (c.args.n.0 + 1) c.chain.at c.in-Some.k c.in-Some.is c.chain.invariant.below in
    let below : c.in-Some-first.first.0 < c.in-Some.k.0 = below_some c.in-Some.k.0 c.read_node-node.result.first c.in-Some-first.first c.in-Some-first.is c.read_node-node.ensures.first in
    (search rules, (omega arith, omega (arith, size_at c.args.pool.now.trees c.chain.at c.in-Some.k c.read_node-node.result c.in-Some.is c.read_node-node.ensures.tree, size_same c.args.pool.now.trees c.read_node-node.result.first (Some c.in-Some-first.first) c.in-Some-first.is)))

pub overflow_add-total-in-Some-first : goal.overflow_add-total-in-Some-first
overflow_add-total-in-Some-first t c = omega (arith, size_at c.args.pool.now.trees c.chain.at c.in-Some.k c.read_node-node.result c.in-Some.is c.read_node-node.ensures.tree, size_same c.args.pool.now.trees c.read_node-node.result.first (Some c.in-Some-first.first) c.in-Some-first.is, c.size-total.ensures)

pub chain-preserved-in-Some-first : goal.chain-preserved-in-Some-first
chain-preserved-in-Some-first t c = record {
  below = search rules;
  total = omega (arith, size_at c.args.pool.now.trees c.chain.at c.in-Some.k c.read_node-node.result c.in-Some.is c.read_node-node.ensures.tree, size_same c.args.pool.now.trees c.read_node-node.result.first (Some c.in-Some-first.first) c.in-Some-first.is, c.size-total.ensures);
}

pub chain-preserved : goal.chain-preserved
chain-preserved t c = record {
  below = search rules;
  total = omega (arith, size_at c.args.pool.now.trees c.chain.at c.in-Some.k c.read_node-node.result c.in-Some.is c.read_node-node.ensures.tree, size_end c.args.pool.now.trees c.read_node-node.result.first c.in_default-first.is);
}

pub returns : goal.returns
returns t c = omega (arith, size_end c.args.pool.now.trees c.chain.at c.in_default.is)
