use Rattle.std.proofs.Common.{length, sym, ◌∙◌}
use Rattle.cv_syntax_trees.specs.Tree.{second}
use Rattle.cv_syntax.specs.PoolTrees.{tree_at}
use Rattle.cv_syntax.proofs.Trees.{child_live, empty_at, node_at}
use Rattle.cv_group_rules.specs.Rules as rule
use Rattle.cv_group.proofs.shapes.Steps as side
use Rattle.cv_group.proofs.reads.are_read.Goals as goal

pub returns-then-not-branch : goal.returns-then-not-branch
returns-then-not-branch c =
    let trees = c.args.pool.now.trees in
    let node = c.read_node-node.result in
    side.and_false _ _ _ _ (side.each_step (λ f. rule.are_read (rule.reads (second f)) (rule.taken_names (tree_at trees c.args.key) f)) (tree_at trees c.list.at) node.head (tree_at trees node.first) (tree_at trees node.second) (node_at trees c.list.at c.in-Some.k node c.in-Some.is c.read_node-node.ensures.tree)) c.list.invariant.same (sym c.in_ok-is_read.ensures ∙ c.if-not-branch.true)

pub list-preserved : goal.list-preserved
list-preserved c =
    let trees = c.args.pool.now.trees in
    let node = c.read_node-node.result in
    record { live = child_live (length trees) c.list.at c.in-Some.k node.second c.in-Some.is c.list.invariant.live c.read_node-node.ensures.second; same = side.and_true _ _ _ _ (side.each_step (λ f. rule.are_read (rule.reads (second f)) (rule.taken_names (tree_at trees c.args.key) f)) (tree_at trees c.list.at) node.head (tree_at trees node.first) (tree_at trees node.second) (node_at trees c.list.at c.in-Some.k node c.in-Some.is c.read_node-node.ensures.tree)) c.list.invariant.same (sym c.in_ok-is_read.ensures ∙ c.if-not-branch.false) }

pub returns : goal.returns
returns c =
    let trees = c.args.pool.now.trees in
    sym (side.each_end (λ f. rule.are_read (rule.reads (second f)) (rule.taken_names (tree_at trees c.args.key) f)) (tree_at c.args.pool.now.trees c.list.at) (empty_at c.args.pool.now.trees c.list.at c.in_default.is)) ∙ c.list.invariant.same
