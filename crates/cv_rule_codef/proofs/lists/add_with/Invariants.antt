use Rattle.std.proofs.Common.{◌≡◌, ◌+◌, ◌∷◌, Some, length}
use Rattle.cv_pool.specs.Nodes.{ChildBelow}
use Rattle.cv_syntax.specs.PoolTrees.{tree_at}
use Rattle.cv_syntax.specs.Walks.{above}
use Rattle.cv_edit_places.specs.Parts.{AreLive, closed, made_by, stack_of}
use Rattle.cv_rule_codef.specs.Lists.{with_cell}
use Rattle.cv_rule_codef.specs.Needs.{made_with}
use Rattle.cv_rule_codef.proofs.lists.add_with.Given as goal

abbrev pub invariant-cells : goal.invariant-cells
invariant-cells l = record {
  at : ChildBelow (length l.pool.trees) l.at;
  stack : closed l.links.items (with_cell (tree_at l.pool.trees (Some l.cell)) (tree_at l.pool.trees l.at) ∷ stack_of l.pool.trees l.parts)
      ≡ with_cell (tree_at l.pool.trees (Some l.fn.cell)) (tree_at l.pool.trees l.fn.list) ∷ stack_of l.pool.trees l.fn.parts;
  made : made_by l.parts + length l.links.items + made_with (tree_at l.pool.trees l.at) ≡ made_by l.fn.parts + made_with (tree_at l.pool.trees l.fn.list);
  live : AreLive (length l.pool.trees) l.fn.parts → AreLive (length l.pool.trees) l.parts;
}

abbrev pub decreases-cells : goal.decreases-cells
decreases-cells l = above l.at
