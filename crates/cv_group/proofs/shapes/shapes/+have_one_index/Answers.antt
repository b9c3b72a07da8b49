use Rattle.std.proofs.Common.{length, sym, ◌∙◌}
use Rattle.cv_syntax.specs.PoolTrees.{tree_at}
use Rattle.cv_syntax.proofs.Trees.{child_above, child_live, empty_at, node_at}
use Rattle.cv_group.proofs.shapes.Steps as step
use Rattle.cv_group.proofs.shapes.shapes.+have_one_index.Goals as goal

pub returns-then-not-has_one_index : goal.returns-then-not-has_one_index
returns-then-not-has_one_index t c =
    let trees = c.args.pool.now.trees in
    let node = c.read_node-node.result in
    step.and_false _ _ _ _ (step.index_step (tree_at trees c.chain.at) node.head (tree_at trees node.first) (tree_at trees node.second) (node_at trees c.chain.at c.in-Some.k node c.in-Some.is c.read_node-node.ensures.tree)) c.chain.invariant.same (sym c.has_one_index.ensures ∙ c.if-not-has_one_index.true)

pub returns-then-not-have_one_index : goal.returns-then-not-have_one_index
returns-then-not-have_one_index t c =
    let trees = c.args.pool.now.trees in
    let node = c.read_node-node.result in
    step.and_second _ _ _ _ _ (step.index_step (tree_at trees c.chain.at) node.head (tree_at trees node.first) (tree_at trees node.second) (node_at trees c.chain.at c.in-Some.k node c.in-Some.is c.read_node-node.ensures.tree)) c.chain.invariant.same (sym c.has_one_index.ensures ∙ c.if-not-has_one_index.false) (sym c.have_one_index.ensures ∙ c.if-not-have_one_index.true)

pub chain-preserved : goal.chain-preserved
chain-preserved t c =
    let trees = c.args.pool.now.trees in
    let node = c.read_node-node.result in
    record { live = child_live (length trees) c.chain.at c.in-Some.k node.second c.in-Some.is c.chain.invariant.live c.read_node-node.ensures.second; same = step.and_third _ _ _ _ _ (step.index_step (tree_at trees c.chain.at) node.head (tree_at trees node.first) (tree_at trees node.second) (node_at trees c.chain.at c.in-Some.k node c.in-Some.is c.read_node-node.ensures.tree)) c.chain.invariant.same (sym c.has_one_index.ensures ∙ c.if-not-has_one_index.false) (sym c.have_one_index.ensures ∙ c.if-not-have_one_index.false); less = child_above _ c.chain.at c.in-Some.k node.second c.in-Some.is c.chain.invariant.less c.read_node-node.ensures.second }

pub returns : goal.returns
returns t c = sym (step.index_end (tree_at c.args.pool.now.trees c.chain.at) (empty_at c.args.pool.now.trees c.chain.at c.in_default.is)) ∙ c.chain.invariant.same
