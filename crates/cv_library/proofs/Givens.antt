-- What is computed of what is given is what the relation says, and it has few tokens.
use Rattle.std.proofs.Common.{◌≡◌, ℕ, suc, List, length, Option, Some, None, Result, Ok, Err, refl, ap, ◌∙◌, subst, arith}
use Rattle.cv_lex.specs.Lexis.{Token, Lexed, tokens_of}
use Rattle.cv_lex.specs.declared.LexError.{LexError}
use Rattle.cv_lex.proofs.Exact.{computed as lexed, said}
use Rattle.cv_library.specs.declared.error.LibraryError.{LibraryError}
use Rattle.cv_library.specs.declared.error.ExpandError.{ExpandError}
use Rattle.cv_library.specs.declared.error.ExpandError.TheVariants as expand
use Rattle.cv_library.specs.Libraries.{Definition, library_of}
use Rattle.cv_library.specs.Expansions.{expanded}
use Rattle.cv_library.specs.Givens.{AreGiven, Given, alone, by_library, given_by, of_expanded, of_file_tokens, of_library, of_library_tokens, tokens_given, with_library}

-- computed tokens are those of the relation
said_by : (bytes : List ℕ) (ts : List Token) → tokens_of bytes ≡ Ok ts → Lexed 0 bytes (Ok ts)
said_by bytes ts e = subst (Lexed 0 bytes) e (lexed (suc (length bytes)) 0 bytes (omega arith))

of_expansion : (r : Result (List Token) ExpandError) (ts : List Token) → of_expanded r ≡ Ok ts → r ≡ Ok ts
of_expansion (Ok us) ts e = cc
of_expansion (Err (expand.Unknown k)) ts e = absurd (cc)
of_expansion (Err (expand.Count k)) ts e = absurd (cc)
of_expansion (Err (expand.Tokens k)) ts e = absurd (cc)
of_expansion (Err expand.OutOfMemory) ts e = absurd (cc)

module _ (bytes more : List ℕ) (ts whole : List Token) (file : tokens_of bytes ≡ Ok ts) where
  by_read : (us : List Token) → tokens_of more ≡ Ok us → (r : Result (List Definition) LibraryError) → library_of us ≡ r → of_library ts r ≡ Ok whole → AreGiven (given_by bytes (Some more)) whole
  by_read us lib (Ok ds) h e = by_library (said_by bytes ts file) (said_by more us lib) h (of_expansion (expanded ds ts) whole e)
  by_read us lib (Err f) h e = absurd (cc)

  by_lexed : (r : Result (List Token) LexError) → tokens_of more ≡ r → of_library_tokens ts r ≡ Ok whole → AreGiven (given_by bytes (Some more)) whole
  by_lexed (Ok us) h e = by_read us h (library_of us) refl e
  by_lexed (Err f) h e = absurd (cc)

by_option : (bytes : List ℕ) (library : Option (List ℕ)) (ts whole : List Token) → tokens_of bytes ≡ Ok ts → with_library ts library ≡ Ok whole → AreGiven (given_by bytes library) whole
by_option bytes None ts whole h e = let same : ts ≡ whole = cc in alone (said_by bytes whole (h ∙ ap Ok same))
by_option bytes (Some more) ts whole h e = by_lexed bytes more ts whole h (tokens_of more) refl e

by_file : (bytes : List ℕ) (library : Option (List ℕ)) (whole : List Token) (r : Result (List Token) LexError) → tokens_of bytes ≡ r → of_file_tokens library r ≡ Ok whole → AreGiven (given_by bytes library) whole
by_file bytes library whole (Ok ts) h e = by_option bytes library ts whole h e
by_file bytes library whole (Err f) h e = absurd (cc)

pub computed : (g : Given) (ts : List Token) → tokens_given g ≡ Ok ts → AreGiven g ts
computed g ts e = by_file g.bytes g.library ts (tokens_of g.bytes) refl e

pub given : (g : Given) (ts : List Token) → AreGiven g ts → tokens_given g ≡ Ok ts
given g ts (alone {bytes = bytes} {ts = us} d) = ap (of_file_tokens None) (said bytes (Ok us) d)
given g whole (by_library {bytes = bytes} {more = more} {ts = ts} {us = us} {ds = ds} d f h x) =
    ap (of_file_tokens (Some more)) (said bytes (Ok ts) d) ∙ ap (of_library_tokens ts) (said more (Ok us) f) ∙ ap (of_library ts) h ∙ ap of_expanded x
