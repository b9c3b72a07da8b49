use Rattle.std.proofs.Common.{◌≡◌, ◌+◌, length}
use Rattle.cv_pool.specs.Nodes.{ChildBelow}
use Rattle.cv_syntax_trees.specs.Tree.{size}
use Rattle.cv_syntax.specs.NameSets.{is_in}
use Rattle.cv_syntax.specs.PoolTrees.{tree_at}
use Rattle.cv_syntax.specs.Walks.{above}
use Rattle.cv_rule_pick.specs.Picking.{first_cell}
use Rattle.cv_rule_pick.proofs.others.cell_among.Given as goal

abbrev pub invariant-cells : goal.invariant-cells
invariant-cells l = record {
  live : ChildBelow (length l.pool.trees) l.at;
  sum : l.place + size (tree_at l.pool.trees l.at) ≡ l.fn.from + size (tree_at l.pool.trees l.fn.list);
  same : first_cell (is_in l.names) l.place (tree_at l.pool.trees l.at) ≡ first_cell (is_in l.names) l.fn.from (tree_at l.pool.trees l.fn.list);
}

abbrev pub decreases-cells : goal.decreases-cells
decreases-cells l = above l.at
