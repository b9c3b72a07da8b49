use Rattle.std.proofs.Common.{◌≡◌, ℕ, Option, drop, map}
use Rattle.cv_scene.specs.Reasons.{equations_in}
use Rattle.cv_scene.specs.Scenes.{Scene}
use Rattle.cv_settling_rules.specs.Candidates.{Candidate}
use Rattle.cv_settling.specs.Instances.{numbered_from, seen_in}
use Rattle.cv_settling.specs.Picking.{IsPicked}
use Rattle.cv_settling.specs.Rewritings.{AreMeasurable, lower_rewritings, placed_in}
use Rattle.cv_settling.specs.Seen.{IsTableOf}
use Rattle.cv_settling.proofs.rewrite.find.Given as goal

-- what is picked of the terms that are left is picked of all
abbrev pub invariant-loop-at : goal.invariant-loop-at
invariant-loop-at l =
    let trees = l.table.pool.now.trees in
    (s : Scene) → IsTableOf s l.table → map (seen_in trees) l.equations ≡ numbered_from 1 (equations_in s.declarations) → AreMeasurable (placed_in trees l.terms) → (new : ℕ) (o : Option Candidate)
    → AreMeasurable (placed_in trees (drop l.at-index l.terms))
    × (IsPicked (lower_rewritings s (placed_in trees (drop l.at-index l.terms))) l.left new o → IsPicked (lower_rewritings s (placed_in trees l.terms)) l.fn.left new o)
