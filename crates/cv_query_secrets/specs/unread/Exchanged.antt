-- Tapes on which the cells of a variable's draws and those of the tests change places. Secrecy is that of
-- Blanchet, TDSC 2008; the exchange is this profile's own.
use Rattle.std.specs.Prelude.{ℕ, ◌==◌, if◌then◌else◌}
use Rattle.cv_meaning.specs.Tapes.{Cell, New_at, Test_at, Tape}

-- the cell that changes places with a cell
abbrev pub exchanged : ℕ → Cell → Cell
exchanged x (New_at y u) = if y == x then Test_at u else New_at y u
exchanged x (Test_at u) = New_at x u
exchanged x c = c

-- the tape on which each cell has what the other one had
abbrev pub exchanged_on : ℕ → Tape → Tape
exchanged_on x t c = t (exchanged x c)
