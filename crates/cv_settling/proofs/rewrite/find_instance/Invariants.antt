use Rattle.std.proofs.Common.{ℕ, Option, Some, drop, map}
use Rattle.std.specs.List.{filter, flat_map}
use Rattle.cv_syntax.specs.PoolTrees.{tree_at}
use Rattle.cv_scene.specs.Scenes.{Scene}
use Rattle.cv_settling_rules.specs.Candidates.{Candidate, Rewrite}
use Rattle.cv_settling.specs.Instances.{seen_in, sides_by}
use Rattle.cv_settling.specs.Measured.{is_lower}
use Rattle.cv_settling.specs.Picking.{IsPicked}
use Rattle.cv_settling.specs.Rewritings.{IsMeasurable}
use Rattle.cv_settling.specs.Seen.{IsTableOf}
use Rattle.cv_settling.proofs.rewrite.find_instance.Given as goal

-- what is picked of the equations that are left is picked of all
abbrev pub invariant-loop-equation : goal.invariant-loop-equation
invariant-loop-equation l =
    let trees = l.table.pool.now.trees in
    let term = tree_at trees (Some l.at.node) in
    (s : Scene) → IsTableOf s l.table → IsMeasurable term → (new : ℕ) (o : Option Candidate)
    → IsPicked (map (Rewrite l.at.place) (filter (is_lower s term) (flat_map (sides_by s term) (map (seen_in trees) (drop l.equation-index l.equations))))) l.left new o
    → IsPicked (map (Rewrite l.at.place) (filter (is_lower s term) (flat_map (sides_by s term) (map (seen_in trees) l.equations)))) l.fn.left new o
