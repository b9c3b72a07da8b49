-- What both rules ask first: that what a step speaks of is there. This profile's own.
use Rattle.std.specs.Prelude.{ℕ, Bool, ◌&&◌, ◌||◌, List}
use Rattle.std.specs.List.{list_all}
use Rattle.cv_scene.specs.Scenes.{Scene, has_place, names}
use Rattle.cv_costs.specs.Large.{are_increasing}

-- the file or the game has the name, the places are in the game, and each stands before the next
abbrev pub stands_at_places : Scene → (x : ℕ) → (places : List ℕ) → Bool
stands_at_places s x ps = (s.known x || names x s.game) && (list_all (has_place s) ps && are_increasing ps)
