-- The only definition of a variable, as a directory tells it.
use Rattle.std.specs.Prelude.{ℕ, ◌==◌, if◌then◌else◌, List, [], Option, Some, None, option_map}
use Rattle.cv_directory.specs.Definitions.{Definition, Entries}

-- the replications above a definition
abbrev pub replications_by : Option Definition → List (ℕ × ℕ)
replications_by None = []
replications_by (Some d) = d.replications

-- the place of the first definition, where it is the only one
abbrev pub only_place : Entries → ℕ → Option ℕ
only_place e x = if e.count x == 1 then option_map (λ (d : Definition). d.place) (e.first x) else None
