use Rattle.std.proofs.Common.{◌≡◌, Some}
use Rattle.cv_pool.specs.declared.node.NodeId.{NodeId}
use Rattle.cv_syntax.specs.PoolTrees.{tree_at}
use Rattle.cv_syntax.specs.Walks.{above}
use Rattle.cv_scene.specs.Late.{is_late}
use Rattle.cv_settling_lateness.specs.Standing.{IsLateness, Stands, is_late_there}
use Rattle.cv_settling_lateness.proofs.lateness.Lateness.is_late.Given as goal

abbrev pub invariant-down : goal.invariant-down
invariant-down l =
    (game : NodeId) → IsLateness l.pool.trees game l.self
    → record {
      stands : Stands l.pool.trees l.self.definitions.list.items l.place l.here;
      same : is_late_there l.pool.trees l.x l.place l.here ≡ is_late l.x (tree_at l.pool.trees (Some game)) l.place;
    }

abbrev pub decreases-down : goal.decreases-down
decreases-down l = above l.here.at
