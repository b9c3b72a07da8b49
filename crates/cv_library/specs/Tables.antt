-- Names that are read into a table.
use Rattle.std.specs.Prelude.{◌≡◌, ℕ, List, Option, Some, None, Result, Ok, Err}
use Rattle.cv_library.specs.declared.error.LibraryError.{LibraryError}
use Rattle.cv_library.specs.declared.error.LibraryError.TheVariants.{Syntax, Twice, Inner, OutOfMemory}

-- all names were read, as none repeats, or it is said which is the first that does
abbrev pub IsTable : Option ℕ → List (List ℕ) → Result (List (List ℕ)) LibraryError → Type 0
IsTable fault names (Ok read) = (fault ≡ None) × (read ≡ names)
IsTable fault names (Err (Twice k)) = fault ≡ Some k
IsTable fault names (Err (Syntax k)) = ⊥
IsTable fault names (Err (Inner k)) = ⊥
IsTable fault names (Err OutOfMemory) = Unit {0}
