use Rattle.std.proofs.Common.{length, ap, sym, ◌∙◌}
use Rattle.cv_syntax_trees.specs.Tree.{second}
use Rattle.cv_syntax.specs.PoolTrees.{tree_at}
use Rattle.cv_syntax.proofs.Trees.{child_live, empty_at, node_at}
use Rattle.cv_group_rules.specs.Rules as rule
use Rattle.cv_group.proofs.shapes.Steps as step
use Rattle.cv_group.proofs.shapes.shapes.bodies_are_terms.Goals as goal

pub returns-then-not-is_term : goal.returns-then-not-is_term
returns-then-not-is_term c =
    let trees = c.args.pool.now.trees in
    let node = c.read_node-node.result in
    step.and_false _ _ _ _ (step.each_step (λ f. rule.is_term (second f)) (tree_at trees c.list.at) node.head (tree_at trees node.first) (tree_at trees node.second) (node_at trees c.list.at c.in-Some.k node c.in-Some.is c.read_node-node.ensures.tree)) c.list.invariant.same (sym (c.is_term.ensures ∙ ap rule.is_term c.second_of.ensures.tree) ∙ c.if-not-is_term.true)

pub list-preserved : goal.list-preserved
list-preserved c =
    let trees = c.args.pool.now.trees in
    let node = c.read_node-node.result in
    record { live = child_live (length trees) c.list.at c.in-Some.k node.second c.in-Some.is c.list.invariant.live c.read_node-node.ensures.second; same = step.and_true _ _ _ _ (step.each_step (λ f. rule.is_term (second f)) (tree_at trees c.list.at) node.head (tree_at trees node.first) (tree_at trees node.second) (node_at trees c.list.at c.in-Some.k node c.in-Some.is c.read_node-node.ensures.tree)) c.list.invariant.same (sym (c.is_term.ensures ∙ ap rule.is_term c.second_of.ensures.tree) ∙ c.if-not-is_term.false) }

pub returns : goal.returns
returns c = sym (step.each_end (λ f. rule.is_term (second f)) (tree_at c.args.pool.now.trees c.list.at) (empty_at c.args.pool.now.trees c.list.at c.in_default.is)) ∙ c.list.invariant.same
