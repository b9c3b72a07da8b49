-- What a name of the next game is: of the game itself, or drawn for one thing. So names that are drawn for
-- different things differ. This profile's own.
use Rattle.std.specs.Prelude.{ℕ, Bool, true, false, ◌&&◌, not, ◌==◌, nat_lt}

pub data Role : Type 0 where
  Plain : Role  -- a variable of the game
  Replication : Role  -- an index of a replication of the game
  Gone : Role  -- the key's variable, a coin, or an answer, which the next game has not
  TheKeyName : Role  -- drawn for the key
  Variable : (site name : ℕ) → Role  -- drawn for what the function of a site binds
  Index : (site place other branch replication : ℕ) → Role  -- drawn for an index of a find

abbrev pub is_plain : Role → Bool
is_plain Plain = true
is_plain r = false

-- not drawn at the site
abbrev pub is_elsewhere : ℕ → Role → Bool
is_elsewhere c (Variable s v) = not (s == c)
is_elsewhere c (Index s q o b k) = not (s == c)
is_elsewhere c r = true

-- an index of a find above this place of the site's body, or of a replication
abbrev pub is_seen : ℕ → ℕ → Role → Bool
is_seen c q (Index s r o b k) = (s == c) && nat_lt r q
is_seen c q Replication = true
is_seen c q r = false

-- what later calls leave as it is, variables aside
abbrev pub is_kept : ℕ → Role → Bool
is_kept c Plain = true
is_kept c TheKeyName = true
is_kept c Replication = true
is_kept c Gone = false
is_kept c (Index s q o b k) = s == c
is_kept c (Variable s v) = false
