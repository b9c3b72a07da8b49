-- What the shelves in memory hold.
use Rattle.std.specs.Prelude.{ℕ, List, Option, None, map, string_bytes, if◌then◌else◌}
use Rattle.cv_outside.specs.Causes.{next_count}
use Rattle.cv_outside.specs.Told.{Files, entry_of, is_to_fail}
use Rattle.cv_outside.specs.declared.shelf.MemShelf.{MemShelf}
use Rattle.cv_outside.specs.declared.shelf.SureShelf.{SureShelf}

-- the files of a shelf
abbrev pub files_of : MemShelf → Files
files_of shelf = entry_of shelf.files.items

-- the names that a shelf was asked for
abbrev pub names_of : MemShelf → List (List ℕ)
names_of shelf = map string_bytes shelf.asked.items

-- the numbers of the calls that are to fail
abbrev pub failing_of : MemShelf → List ℕ
failing_of shelf = shelf.failing.items

-- how many calls there were
abbrev pub calls_of : MemShelf → ℕ
calls_of shelf = shelf.calls

-- how many faults there were
abbrev pub faults_of : MemShelf → ℕ
faults_of shelf = shelf.faults

-- the file that the next call finds: none where that call is to fail
abbrev pub found_next : MemShelf → List ℕ → Option (List ℕ)
found_next shelf name =
    if is_to_fail (failing_of shelf) (next_count (calls_of shelf)) then None else files_of shelf name

-- the files of a shelf that has no faults
abbrev pub sure_files_of : SureShelf → Files
sure_files_of shelf = entry_of shelf.files.items

-- the names that a shelf that has no faults was asked for
abbrev pub sure_names_of : SureShelf → List (List ℕ)
sure_names_of shelf = map string_bytes shelf.asked.items
