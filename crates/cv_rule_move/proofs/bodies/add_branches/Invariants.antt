use Rattle.std.proofs.Common.{◌≡◌, ◌+◌, ◌∷◌, length}
use Rattle.cv_pool.specs.Nodes.{ChildBelow}
use Rattle.cv_syntax_trees.specs.Tree.{Node}
use Rattle.cv_syntax.specs.PoolTrees.{tree_at}
use Rattle.cv_syntax.specs.Walks.{above}
use Rattle.cv_edit_places.specs.Parts.{AreLive, closed, made_by, stack_of}
use Rattle.cv_rule_move.specs.Moving.{in_branches}
use Rattle.cv_rule_move.specs.Steps.{made_in_branches}
use Rattle.cv_rule_move.proofs.bodies.add_branches.Given as goal

abbrev pub invariant-branches : goal.invariant-branches
invariant-branches l = record {
  at : ChildBelow (length l.pool.trees) l.at;
  stack : closed l.links.items (in_branches (Node l.definition.head (tree_at l.pool.trees l.definition.first)) (tree_at l.pool.trees l.at) ∷ stack_of l.pool.trees l.parts)
      ≡ in_branches (Node l.definition.head (tree_at l.pool.trees l.definition.first)) (tree_at l.pool.trees l.fn.branches) ∷ stack_of l.pool.trees l.fn.parts;
  made : made_by l.parts + length l.links.items + made_in_branches (tree_at l.pool.trees l.at) ≡ made_by l.fn.parts + made_in_branches (tree_at l.pool.trees l.fn.branches);
  live : AreLive (length l.pool.trees) l.fn.parts → AreLive (length l.pool.trees) l.parts;
}

abbrev pub decreases-branches : goal.decreases-branches
decreases-branches l = above l.at
