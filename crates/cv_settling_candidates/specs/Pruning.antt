-- Bodies that are candidates for a `prune`, each with a reason. This profile's own.
use Rattle.std.specs.Prelude.{◌≡◌, ℕ, Some}
use Rattle.cv_syntax_trees.specs.Tree.{Tree}
use Rattle.cv_scene.specs.Pruning.{Pruned, pruned}
use Rattle.cv_scene.specs.Scenes.{Scene, part_at}
use Rattle.cv_scene.specs.Sights.{sight_at}
use Rattle.cv_steps.specs.Changes.{change_at}
use Rattle.cv_steps.specs.Rows.{prune_row}
use Rattle.cv_steps.specs.Steps.{Leads, Zero}
use Rattle.cv_settling_rules.specs.Candidates.{Candidate, Prune}
use Rattle.cv_settling_rules.specs.Reasons.{IsReason, Why}

-- there is such a body, and it isn't reached
abbrev pub HasReason : Scene → Candidate → Type 0
HasReason s (Prune p part) =
    (gone : Pruned) × (pruned p (part_at s.game p) part ≡ Some gone)
    × (condition : Tree) × (fact : ℕ) × (why : Why) × IsReason (sight_at s gone.body) part condition fact why
HasReason s c = Unit {0}

-- by some derivation the row of its step leads to the game without it
abbrev pub Goes : Scene → Candidate → Type 0
Goes s (Prune p part) =
    (by : Tree) × (gone : Pruned) × (pruned p (part_at s.game p) part ≡ Some gone)
    × (prune_row s p part by ≡ Leads (change_at s.game p (λ old. gone.left)) Zero)
Goes s c = Unit {0}
