-- The words of a command, the file and the library that they name, what is read of both, and what is asked of the shelf. This profile's
-- own.
use Rattle.std.specs.Prelude.{ℕ, ◌≡◌, ◌<◌, ◌≤◌, ◌⊎◌, ◌++◌, true, false, List, [], ◌∷◌, length, Option, Some, None, IsNone, IsSome, IsSomeAnd, IfSome, map, option_and_then, option_map, string_bytes}
use Rattle.std.specs.declared.alloc.Global.{Global}
use Rattle.std.specs.declared.string.String.{String}
use Rattle.cv_outside.specs.Told.{Files, bytes_of}
use Rattle.cv_accept.specs.Accepted.{most_bytes}
use Rattle.cv_alone.specs.Alone.{alone}
use Rattle.cv_library.specs.Givens.{Given}
use Rattle.cv_report.specs.declared.report.Command.{Command}
use Rattle.cv_report.specs.declared.report.Command.TheVariants as command
use Rattle.cv_report.specs.declared.report.Report.{Report}
use Rattle.cv_report.specs.declared.report.Status.TheVariants as status
use Rattle.cv_outside.specs.words.sample.Samples.{file_of}
use Rattle.cv_outside.specs.words.Forms.{Asked, Games, IsForm, Prove, Sample, Text}
use Rattle.cv_outside.specs.words.Words.{command_read}

-- what the words of the command line ask for
abbrev pub asked_by : List (String Global) → Option Asked
asked_by words = command_read (map string_bytes words)

-- the files that a command names: its file, and directly behind it its library

abbrev pub library_asked : Option Text → List Text
library_asked None = []
library_asked (Some name) = name ∷ []

abbrev pub files_asked : Option Asked → List Text
files_asked (Some (Prove file moves more library query)) = file ∷ library_asked library
files_asked (Some (Games file library)) = file ∷ library_asked library
files_asked (Some (Sample n prove)) = []
files_asked None = []

-- the number of a sample whose text is asked for
abbrev pub text_asked : Asked → Option ℕ
text_asked (Sample n false) = Some n
text_asked asked = None

-- the command of a report
abbrev pub command_of : Option Asked → Command
command_of (Some (Prove file moves more library query)) = command.Prove moves more query
command_of (Some (Games file library)) = command.Games
command_of (Some (Sample n prove)) = command.Sample n prove
command_of None = command.Nothing

-- a sample has no library
abbrev pub without_library : List ℕ → Given
without_library bytes = record { bytes = bytes; library = None }

-- what stands under the names of a file and a library, where the shelf tells its files

abbrev pub files_under : Files → Text → Option Text → Given
files_under files name library = record { bytes = bytes_of files name; library = option_map (bytes_of files) library }

abbrev pub source_under : Option Files → Text → Option Text → Option Given
source_under told name library = option_map (λ files. files_under files name library) told

-- where one query is asked alone, the file is read without its other queries and its proof block
abbrev pub with_query : Option ℕ → Given → Given
with_query None source = source
with_query (Some k) source = record source { bytes = alone k source.bytes }

-- what a command reads, where it is told: what stands under the names of its file and library, or a sample of which a proof is asked
abbrev pub source_asked : Option Files → Option Asked → Option Given
source_asked told (Some (Prove file moves more library query)) = option_map (with_query query) (source_under told file library)
source_asked told (Some (Games file library)) = source_under told file library
source_asked told (Some (Sample n true)) = Some (without_library (file_of n))
source_asked told (Some (Sample n false)) = None
source_asked told None = None

-- where a source is told, it is this one
abbrev pub AreTold : Option Given → Given → Type 0
AreTold told source = IfSome told (λ s. s ≡ source)

-- neither the file nor the library has more bytes than a file may have
pub record IsShort (source : Given) : Type 0 where
  pub file : length source.bytes ≤ most_bytes
  pub library : IfSome source.library (λ bytes. length bytes ≤ most_bytes)

-- the file has more, or the library
abbrev pub IsLong : Given → Type 0
IsLong source = (most_bytes < length source.bytes) ⊎ IsSomeAnd source.library (λ bytes. most_bytes < length bytes)

-- The command is the one that words give, unless memory runs out while they are read. A word of the plain forms asks for what it says.
-- Words that give no command are refused, and only those. The text of a sample is written without more.
pub record SaysOfWords (words : List Text) (r : Report) : Type 0 where
  pub plain : (program : Text) (asked : Asked) → IsForm program words asked → command_read words ≡ Some asked
  pub command : (r.command ≡ command_of (command_read words)) ⊎ ((r.command ≡ command.Nothing) × (r.status ≡ status.Memory))
  pub refused : IsNone (command_read words) → (r.status ≡ status.Words) ⊎ (r.status ≡ status.Memory)
  pub only : r.status ≡ status.Words → IsNone (command_read words)
  pub sample : IsSome (option_and_then text_asked (command_read words)) → (r.status ≡ status.Done) ⊎ (r.status ≡ status.Memory)

-- a shelf is asked for these names in their order, or for the first ones of them

abbrev pub AsksSome : List Text → List Text → List Text → Type 0
AsksSome [] before after = ⊥
AsksSome (name ∷ names) before after = (after ≡ before ++ name ∷ []) ⊎ AsksSome names (before ++ name ∷ []) after

abbrev pub AsksOnly : List Text → List Text → List Text → Type 0
AsksOnly names before after = (after ≡ before) ⊎ AsksSome names before after
