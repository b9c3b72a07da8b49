-- Places of variables with numbers of indices: in rows by names, and apart.
use Rattle.std.specs.Prelude.{ℕ, Bool, true, ◌==◌, if◌then◌else◌, List, slice_index_or, Option, Some, None}
use Rattle.std.specs.HashMap.{get}
use Rattle.cv_syntax_trees.specs.sites.Pairs.{same_pair}
use Rattle.cv_scope.specs.declared.tables.places.Places.{Places}

abbrev pub row_at : List (Option (ℕ × ℕ)) → ℕ → Option (ℕ × ℕ)
row_at rows x = slice_index_or rows x None

-- a row has the place for this number of indices, or none
abbrev pub is_free : Option (ℕ × ℕ) → ℕ → Bool
is_free None n = true
is_free (Some r) n = r.0 == n

-- the place in a row, where it has that for this number of indices, and else another one
abbrev pub or_else : Option (ℕ × ℕ) → ℕ → Option ℕ → Option ℕ
or_else None n place = place
or_else (Some r) n place = if r.0 == n then Some r.1 else place

abbrev pub place_of : Places → ℕ × ℕ → Option ℕ
place_of p d = or_else (row_at p.rows.items d.0) d.1 (get same_pair p.others d)
