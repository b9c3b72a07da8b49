-- Equality of pairs of numbers, as the keys of tables.
use Rattle.std.specs.Prelude.{ℕ, nat_eq, Bool, ◌&&◌}

abbrev pub same_pair : ℕ × ℕ → ℕ × ℕ → Bool
same_pair p q = nat_eq p.0 q.0 && nat_eq p.1 q.1
