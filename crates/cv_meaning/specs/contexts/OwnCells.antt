-- Which cells are those of one call. This profile's own.
use Rattle.std.specs.Prelude.{◌≡◌}
use Rattle.cv_meaning.specs.Tapes.{Cell, Made_at, Picked_at}
use Rattle.cv_meaning.specs.Side.{CallNumber}

abbrev pub IsOfCall : CallNumber → Cell → Type 0
IsOfCall n (Made_at x u l) = (u ≡ n.tuple) × (l ≡ n.site)
IsOfCall n (Picked_at x u l) = (u ≡ n.tuple) × (l ≡ n.site)
IsOfCall n c = ⊥
