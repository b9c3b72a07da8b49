use Rattle.std.proofs.Common.{arith, ◌<◌, length, ap, sym, ◌∙◌}
use Rattle.cv_syntax_trees.specs.Tree.{name_in}
use Rattle.cv_syntax.proofs.Indexed.{name_here, name_next, name_end, name_other}
use Rattle.cv_syntax.proofs.Walking.{below_some, live_child}
use Rattle.cv_syntax.proofs.decls.name.Goals as goal

pub returns-in-Name : goal.returns-in-Name
returns-in-Name c = sym (sym c.chain.invariant.found ∙ (name_here c.args.pool.now.trees c.chain.at c.in-Some.n c.read_node-node.result c.chain.left c.in-Some.is c.read_node-node.ensures.tree c.if-left-eq0.true ∙ ap name_in c.in-Name.is))

pub returns-in_default-head : goal.returns-in_default-head
returns-in_default-head c = sym (sym c.chain.invariant.found ∙ (name_here c.args.pool.now.trees c.chain.at c.in-Some.n c.read_node-node.result c.chain.left c.in-Some.is c.read_node-node.ensures.tree c.if-left-eq0.true ∙ name_other c.read_node-node.result.head c.in_default-head.not-Name))

pub chain-preserved : goal.chain-preserved
chain-preserved c = record {
  live = let n : c.in-Some.n.0 < length c.args.pool.now.trees = below_some (length c.args.pool.now.trees) c.chain.at c.in-Some.n c.in-Some.is c.chain.invariant.live in live_child (length c.args.pool.now.trees) c.in-Some.n.0 c.read_node-node.result.second (omega arith) c.read_node-node.ensures.second;
  found = sym (name_next c.args.pool.now.trees c.chain.at c.in-Some.n c.read_node-node.result c.chain.left c.in-Some.is c.read_node-node.ensures.tree c.if-left-eq0.false) ∙ c.chain.invariant.found;
}

pub returns : goal.returns
returns c = sym (sym c.chain.invariant.found ∙ name_end c.args.pool.now.trees c.chain.at c.chain.left c.in_default.is)
