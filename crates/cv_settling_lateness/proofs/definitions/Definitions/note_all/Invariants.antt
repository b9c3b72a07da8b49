use Rattle.std.proofs.Common.{◌≡◌, ◌++◌, map}
use Rattle.cv_syntax.specs.PoolTrees.{tree_at}
use Rattle.cv_syntax.specs.Walks.{above}
use Rattle.cv_syntax_trees.specs.Tree.{bound_names}
use Rattle.cv_settling_lateness.specs.Defining.{definition}
use Rattle.cv_settling_lateness.proofs.definitions.Definitions.note_all.Given as goal

abbrev pub invariant-cells : goal.invariant-cells
invariant-cells l = l.self.list.items ++ map (definition l.place) (bound_names (tree_at l.pool.trees l.at)) ≡ l.fn.self.list.items ++ map (definition l.place) (bound_names (tree_at l.pool.trees l.fn.list))

abbrev pub decreases-cells : goal.decreases-cells
decreases-cells l = above l.at
