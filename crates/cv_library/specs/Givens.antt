-- What the program is given: the bytes of a file, and those of a library where one is named.
use Rattle.std.specs.Prelude.{◌≡◌, ℕ, List, Option, Some, None, Result, Ok, Err}
use Rattle.cv_lex.specs.Lexis.{Token, Lexed, tokens_of}
use Rattle.cv_lex.specs.declared.LexError.{LexError}
use Rattle.cv_lex.specs.declared.LexError.TheVariants as lex
use Rattle.cv_library.specs.declared.error.LibraryError.{LibraryError}
use Rattle.cv_library.specs.declared.error.LibraryError.TheVariants as library
use Rattle.cv_library.specs.declared.error.ExpandError.{ExpandError}
use Rattle.cv_library.specs.declared.error.ExpandError.TheVariants as expand
use Rattle.cv_library.specs.declared.error.GivenError.{GivenError}
use Rattle.cv_library.specs.declared.error.GivenError.TheVariants.{Lex, LibraryLex, Library, Expand, Tokens, OutOfMemory}
use Rattle.cv_library.specs.Libraries.{Definition, library_of}
use Rattle.cv_library.specs.Expansions.{expanded}

pub record Given : Type 0 where
  pub bytes : List ℕ
  pub library : Option (List ℕ)

abbrev pub given_by : List ℕ → Option (List ℕ) → Given
given_by bytes library = record { bytes = bytes; library = library }

-- These tokens are given: those of the file, or, where there is a library, what they are expanded to by it.
pub data AreGiven : Given → List Token → Type 0 where
  alone : {bytes : List ℕ} {ts : List Token} → Lexed 0 bytes (Ok ts) → AreGiven (record { bytes = bytes; library = None }) ts
  by_library : {bytes more : List ℕ} {ts us whole : List Token} {ds : List Definition} → Lexed 0 bytes (Ok ts) → Lexed 0 more (Ok us) → library_of us ≡ Ok ds → expanded ds ts ≡ Ok whole
      → AreGiven (record { bytes = bytes; library = Some more }) whole

-- the same, computed, with why there are no tokens: the file is lexed first, then the library is lexed and read, and then the file
-- is expanded

abbrev pub of_expanded : Result (List Token) ExpandError → Result (List Token) GivenError
of_expanded (Ok ts) = Ok ts
of_expanded (Err (expand.Tokens count)) = Err (Tokens count)
of_expanded (Err e) = Err (Expand e)

abbrev pub of_library : List Token → Result (List Definition) LibraryError → Result (List Token) GivenError
of_library ts (Ok ds) = of_expanded (expanded ds ts)
of_library ts (Err e) = Err (Library e)

abbrev pub of_library_tokens : List Token → Result (List Token) LexError → Result (List Token) GivenError
of_library_tokens ts (Ok us) = of_library ts (library_of us)
of_library_tokens ts (Err e) = Err (LibraryLex e)

abbrev pub with_library : List Token → Option (List ℕ) → Result (List Token) GivenError
with_library ts None = Ok ts
with_library ts (Some more) = of_library_tokens ts (tokens_of more)

abbrev pub of_file_tokens : Option (List ℕ) → Result (List Token) LexError → Result (List Token) GivenError
of_file_tokens library (Ok ts) = with_library ts library
of_file_tokens library (Err e) = Err (Lex e)

-- the tokens of what is given, or why there are none
abbrev pub tokens_given : Given → Result (List Token) GivenError
tokens_given given = of_file_tokens given.library (tokens_of given.bytes)

-- how errors of the parts are answered

abbrev pub of_lex : LexError → GivenError
of_lex lex.OutOfMemory = OutOfMemory
of_lex e = Lex e

abbrev pub of_library_lex : LexError → GivenError
of_library_lex lex.OutOfMemory = OutOfMemory
of_library_lex e = LibraryLex e

abbrev pub of_library_error : LibraryError → GivenError
of_library_error library.OutOfMemory = OutOfMemory
of_library_error e = Library e

abbrev pub of_expand_error : ExpandError → GivenError
of_expand_error expand.OutOfMemory = OutOfMemory
of_expand_error (expand.Tokens count) = Tokens count
of_expand_error e = Expand e

-- Memory may run out anywhere; every other error is the one that is meant.
abbrev pub AreNotGiven : GivenError → Given → Type 0
AreNotGiven OutOfMemory given = Unit {0}
AreNotGiven e given = tokens_given given ≡ Err e
