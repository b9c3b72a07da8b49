use Rattle.std.proofs.Common.{◌≡◌, [], length}
use Rattle.cv_pool.specs.Nodes.{ChildBelow}
use Rattle.cv_syntax_trees.specs.Tree.{second}
use Rattle.cv_syntax.specs.PoolTrees.{tree_at}
use Rattle.cv_syntax.specs.Walks.{above}
use Rattle.cv_group_rules.specs.Rules as rule
use Rattle.cv_group.specs.Tables.{around_by, symbols_in}
use Rattle.cv_group.specs.bodies.Levels.{is_paired}
use Rattle.cv_group.proofs.sides.bodies_are_bound.Given as goal

abbrev pub invariant-list : goal.invariant-list
invariant-list l = record {
  live : ChildBelow (length l.pool.trees) l.at;
  symbols : l.around.symbols ≡ l.fn.around.symbols;
  names : l.around.names ≡ l.fn.around.names;
  same : rule.each_function (λ f. rule.is_bound (around_by (symbols_in l.fn.around.symbols) (is_paired l.fn.around.names) (tree_at l.pool.trees l.key) f) [] (second f)) (tree_at l.pool.trees l.at) ≡ rule.each_function (λ f. rule.is_bound (around_by (symbols_in l.fn.around.symbols) (is_paired l.fn.around.names) (tree_at l.pool.trees l.key) f) [] (second f)) (tree_at l.pool.trees l.fn.functions);
}

abbrev pub decreases-list : goal.decreases-list
decreases-list l = above l.at
