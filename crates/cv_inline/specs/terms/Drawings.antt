-- The drawn names that tables have. This profile's own.
use Rattle.std.specs.Prelude.{ℕ, nat_eq, Bool, ◌&&◌, Option, Some, None}
use Rattle.std.specs.HashMap.{get}
use Rattle.cv_meaning.specs.contexts.Inlined.{Drawn}
use Rattle.cv_inline.specs.declared.terms.drawn.Drawing.{Drawing}
use Rattle.cv_inline.specs.declared.terms.drawn.Index.{Index}

abbrev pub same_pair : ℕ × ℕ → ℕ × ℕ → Bool
same_pair p q = nat_eq p.0 q.0 && nat_eq p.1 q.1

abbrev pub same_index : Index → Index → Bool
same_index a b = nat_eq a.site b.site && nat_eq a.place b.place && nat_eq a.other b.other && nat_eq a.branch b.branch && nat_eq a.replication b.replication

-- what a table has, or 0
abbrev pub or_zero : Option ℕ → ℕ
or_zero None = 0
or_zero (Some n) = n

abbrev pub drawn_in : Drawing → Drawn
drawn_in t =
    record {
      key = t.key;
      variable = λ s v. or_zero (get same_pair t.variables (s, v));
      label = λ s q. or_zero (get same_pair t.labels (s, q));
      index = λ s q o b k. or_zero (get same_index t.indices (record { site = s; place = q; other = o; branch = b; replication = k }));
    }
