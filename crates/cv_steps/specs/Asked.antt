-- What the queries of a file ask for in a game of it. This profile's own.
use Rattle.std.specs.Prelude.{◌≡◌, ℕ, true, false}
use Rattle.cv_scene.specs.Scenes.{Scene, is_queried}
use Rattle.cv_scene.specs.Terms.{has_index}

-- for the secrecy of no index of a replication
abbrev pub AskForNoIndex : Scene → Type 0
AskForNoIndex s = (x : ℕ) → is_queried s x ≡ true → has_index s.game x ≡ false
