use Rattle.std.proofs.Common.{◌≡◌, length}
use Rattle.cv_pool.specs.Nodes.{ChildBelow}
use Rattle.cv_syntax_trees.specs.Tree.{second}
use Rattle.cv_syntax.specs.PoolTrees.{tree_at}
use Rattle.cv_syntax.specs.Walks.{above}
use Rattle.cv_group_rules.specs.Rules as rule
use Rattle.cv_group.proofs.shapes.shapes.bodies_are_terms.Given as goal

abbrev pub invariant-list : goal.invariant-list
invariant-list l = record {
  live : ChildBelow (length l.pool.trees) l.at;
  same : rule.each_function (λ f. rule.is_term (second f)) (tree_at l.pool.trees l.at) ≡ rule.each_function (λ f. rule.is_term (second f)) (tree_at l.pool.trees l.fn.functions);
}

abbrev pub decreases-list : goal.decreases-list
decreases-list l = above l.at
