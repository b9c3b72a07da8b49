-- Tokens lie within the text that they are of.
use Rattle.std.proofs.Common.{◌≡◌, ℕ, ◌+◌, ◌≤◌, List, length, drop, length-drop, Result, Ok, Err, subst, arith}
use Rattle.std.specs.List.{AllByRecursion}
use Rattle.std.proofs.lemmas.List.{length-take-le}
use Rattle.std.proofs.lemmas.List.Elements.{All-from_recursion}
use Rattle.cv_lex.specs.declared.LexError.{LexError}
use Rattle.cv_lex.specs.Lexis.{Token, Lexed, ends, between, token, later, unclosed, wide, foreign, tokens_of}
use Rattle.cv_lex.proofs.Exact.{computed}
use Rattle.cv_lex.proofs.Pieces.{between_bounds, lexeme}
use Rattle.cv_alone.specs.Sizes.{AreWithin}

abbrev Inside : ℕ → Token → Type 0
Inside n t = t.offset + length t.text ≤ n

abbrev AreInside : ℕ → Result (List Token) LexError → Type 0
AreInside n (Ok ts) = AllByRecursion (Inside n) ts
AreInside n (Err e) = Unit {0}

inside : (n : ℕ) {k : ℕ} {bs : List ℕ} {r : Result (List Token) LexError} → Lexed k bs r → k + length bs ≤ n → AreInside n r
inside n {k = k} {bs = bs} (ends e) h = (omega arith, tt)
inside n {k = k} {bs = bs} (between m e d) h = let f = between_bounds bs m e in inside n {k = k + m} {bs = drop m bs} d (omega (arith, length-drop m bs, f.1))
inside n {k = k} {bs = bs} (token kind m e d) h =
    let f = lexeme bs kind m e in
    (omega (arith, length-take-le m bs f.within, f.within), inside n {k = k + m} {bs = drop m bs} d (omega (arith, length-drop m bs, f.within)))
inside n (later kind m e d) h = tt
inside n (unclosed e) h = tt
inside n (wide e) h = tt
inside n (foreign e) h = tt

pub tokens_within : (bytes : List ℕ) (ts : List Token) → tokens_of bytes ≡ Ok ts → AreWithin (length bytes) ts
tokens_within bytes ts e =
    All-from_recursion (Inside (length bytes)) ts (subst (AreInside (length bytes)) e (inside (length bytes) {k = 0} {bs = bytes} (computed _ 0 bytes (omega arith)) (omega arith)))
