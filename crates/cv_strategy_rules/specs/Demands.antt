-- What a step that settles a game asks of it besides: where it isn't so, the candidate settles nothing. This profile's own.
use Rattle.std.specs.Prelude.{◌≡◌, ℕ, true, false, List, ◌∷◌, None}
use Rattle.cv_scene.specs.Large.{first_other_site, is_large}
use Rattle.cv_scene.specs.Scenes.{Scene, first_reading, is_chosen, is_queried, part_at}
use Rattle.cv_scope_rules.specs.Made.{is_own_at}
use Rattle.cv_steps.specs.Unletting.{is_listed}
use Rattle.cv_costs.specs.names.Naming.{first_naming}
use Rattle.cv_rule_birthday.specs.guess.Guessing.{first_other_read}
use Rattle.cv_rule_move.specs.merge.Merging.{Body, bodies, first_other, is_beside}
use Rattle.cv_settling_rules.specs.Candidates.{Birthday, Candidate, Guess, Merge, Unlet, Unnew}

-- the bodies of a construct are one, and elsewhere nothing names its index variables
pub record IsMergeable (s : Scene) (place : ℕ) : Type 0 where
  pub body : Body
  pub others : List Body
  pub all : bodies place (part_at s.game place) ≡ body ∷ others
  pub equal : first_other body.process others ≡ None
  pub own : first_naming (is_own_at (part_at s.game place)) (is_beside place (part_at s.game place) body) 0 s.game ≡ None

-- the variable is chosen, and neither the game nor a query names it
pub record IsUnused (s : Scene) (x : ℕ) : Type 0 where
  pub chosen : is_chosen s x ≡ true
  pub unasked : is_queried s x ≡ false
  pub unread : first_reading x 0 s.game ≡ None

-- no query and no `defined` list names it
pub record IsUnlisted (s : Scene) (x : ℕ) : Type 0 where
  pub unasked : is_queried s x ≡ false
  pub unlisted : is_listed x s.game ≡ false

-- all its definitions are choices from large types
pub record IsLargeChoice (s : Scene) (x : ℕ) : Type 0 where
  pub chosen : first_other_site (is_large s) x 0 s.game ≡ None

-- nothing else reads it, and no query names it
pub record IsGuess (s : Scene) (x : ℕ) (places : List ℕ) : Type 0 where
  pub large : IsLargeChoice s x
  pub alone : first_other_read places x s.game ≡ None
  pub unasked : is_queried s x ≡ false

-- by the kinds of candidates that go by no derivation
abbrev pub Demands : Scene → Candidate → Type 0
Demands s (Merge p) = IsMergeable s p
Demands s (Unnew x) = IsUnused s x
Demands s (Unlet x) = IsUnlisted s x
Demands s (Birthday x ps) = IsLargeChoice s x
Demands s (Guess x ps) = IsGuess s x ps
Demands s c = Unit {0}
