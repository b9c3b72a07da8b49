use Rattle.std.proofs.Common.{◌≡◌, length}
use Rattle.cv_pool.specs.Nodes.{ChildBelow}
use Rattle.cv_syntax_trees.specs.Tree.{same_tree}
use Rattle.cv_syntax.specs.PoolTrees.{tree_at}
use Rattle.cv_syntax.specs.Walks.{above as rank}
use Rattle.cv_scope_rules.specs.Context.{items}
use Rattle.cv_scene.specs.lines.Inferences.{equations_of}
use Rattle.cv_derive_reasons.proofs.injectivity.data.are_equations.Given as goal

abbrev pub invariant-items : goal.invariant-items
invariant-items l = record {
  live : ChildBelow (length l.pool.trees) l.at;
  second : ChildBelow (length l.pool.trees) l.behind;
  term : ChildBelow (length l.pool.trees) l.rest;
  same : same_tree (tree_at l.pool.trees l.rest) (equations_of (items (tree_at l.pool.trees l.at)) (items (tree_at l.pool.trees l.behind))) ≡ same_tree (tree_at l.pool.trees l.fn.term) (equations_of (items (tree_at l.pool.trees l.fn.left)) (items (tree_at l.pool.trees l.fn.right)));
}

abbrev pub decreases-items : goal.decreases-items
decreases-items l = rank l.at
