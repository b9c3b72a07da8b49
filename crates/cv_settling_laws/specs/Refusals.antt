-- By which conditions a step is refused. This profile's own.
use Rattle.std.specs.Prelude.{◌≡◌, ◌⊎◌, ℕ, Some}
use Rattle.cv_scene.specs.Pruning.{Pruned, pruned}
use Rattle.cv_scene.specs.Scenes.{Scene, part_at}
use Rattle.cv_scene.specs.Sights.{sight_at}
use Rattle.cv_settling_rules.specs.Reasons.{IsUnreached, Unreached}

abbrev pub IsOneOf : (condition first second third : ℕ) → Type 0
IsOneOf d a b c = (d ≡ a) ⊎ ((d ≡ b) ⊎ (d ≡ c))

-- if there is such a body of the construct at the place, this is why it isn't reached
abbrev pub IsPruning : Scene → (place : ℕ) → Unreached → Type 0
IsPruning s place u =
    (gone : Pruned) → pruned place (part_at s.game place) u.part ≡ Some gone → IsUnreached (sight_at s gone.body) u
