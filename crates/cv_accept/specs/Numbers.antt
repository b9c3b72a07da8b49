-- The numbers of tokens that refusals tell: those of the source that is read.
use Rattle.std.specs.Prelude.{ℕ, Result, Ok, Err}
use Rattle.cv_parse.specs.declared.error.ParseError.{ParseError}
use Rattle.cv_parse.specs.declared.error.ParseError.TheVariants.{Syntax, Nesting, NameTwice, NameUnknown}
use Rattle.cv_accept.specs.declared.error.FileError.{FileError}
use Rattle.cv_accept.specs.declared.error.FileError.TheVariants.{Parse, Script}

-- the same fault, with other numbers of tokens
abbrev pub parse_told : (ℕ → ℕ) → ParseError → ParseError
parse_told number (Syntax k) = Syntax (number k)
parse_told number (Nesting k) = Nesting (number k)
parse_told number (NameTwice k) = NameTwice (number k)
parse_told number (NameUnknown k) = NameUnknown (number k)
parse_told number e = e

abbrev pub told : (ℕ → ℕ) → FileError → FileError
told number (Parse e) = Parse (parse_told number e)
told number (Script k) = Script (number k)
told number e = e

abbrev pub told_by : {A : Type 0} → (ℕ → ℕ) → Result A FileError → Result A FileError
told_by number (Ok f) = Ok f
told_by number (Err e) = Err (told number e)
