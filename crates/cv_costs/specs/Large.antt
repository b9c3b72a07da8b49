-- Places in increasing order. This profile's own.
use Rattle.std.specs.Prelude.{ℕ, Bool, true, ◌&&◌, nat_lt, List, [], ◌∷◌}

-- each of some numbers is below the next

abbrev pub is_below : ℕ → List ℕ → Bool
is_below p [] = true
is_below p (q ∷ qs) = nat_lt p q && is_below q qs

abbrev pub are_increasing : List ℕ → Bool
are_increasing [] = true
are_increasing (p ∷ ps) = is_below p ps
