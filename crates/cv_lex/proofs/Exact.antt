-- The steps give what the relation says, and the relation says one thing.
use Rattle.std.proofs.Common.{◌≡◌, ℕ, zero, suc, ◌+◌, ◌<◌, ◌≤◌, List, [], ◌∷◌, length, take, drop, length-drop, Result, Ok, Err, refl, ap, ◌∙◌, arith, codes}
use Rattle.cv_lex.specs.declared.TokenKind.{TokenKind}
use Rattle.cv_lex.specs.declared.TokenKind.TheVariants.{Ident, Number, Symbol}
use Rattle.cv_lex.specs.declared.LexError.{LexError}
use Rattle.cv_lex.specs.declared.LexError.TheVariants.{CommentOpen, NumberWide}
use Rattle.cv_lex.specs.declared.scan.Piece.{Piece}
use Rattle.cv_lex.specs.declared.scan.Piece.TheVariants.{Nothing, Between, Lexeme, OpenComment, WideNumber, ForeignByte}
use Rattle.cv_lex.specs.Lexis.{Token, lexed, Lexed, ends, between, token, later, unclosed, wide, foreign, piece, put, one, end_token, tokens_of}
use Rattle.cv_lex.proofs.Pieces.{between_some, token_some}

-- examples
worked : tokens_of (codes "a(* (**) *) ==>= 01x") ≡ Ok (
    record { kind = Ident; text = codes "a"; offset = 0 } ∷ record { kind = Symbol; text = codes "==>"; offset = 12 } ∷ record { kind = Symbol; text = codes "="; offset = 15 }
    ∷ record { kind = Number 1; text = codes "01"; offset = 17 } ∷ record { kind = Ident; text = codes "x"; offset = 19 } ∷ end_token 20 ∷ []
    )
unfolding lexed
worked = refl

open_comment : tokens_of (codes "a (* (**)") ≡ Err (CommentOpen 2)
unfolding lexed
open_comment = refl

wide_number : tokens_of (codes "18446744073709551615 18446744073709551616") ≡ Err (NumberWide 21)
unfolding lexed
wide_number = refl

-- a run of the relation has so many steps
pub count : {k : ℕ} {bs : List ℕ} {r : Result (List Token) LexError} → Lexed k bs r → ℕ
count (ends e) = 0
count (between n e d) = suc (count d)
count (token kind n e d) = suc (count d)
count (later kind n e d) = suc (count d)
count (unclosed e) = 0
count (wide e) = 0
count (foreign e) = 0

pub exact : {k : ℕ} {bs : List ℕ} {r : Result (List Token) LexError} (d : Lexed k bs r) (n : ℕ) → count d < n → lexed n k bs ≡ r
unfolding count lexed
exact d zero h = absurd (omega arith)
exact {k = k} {bs = bs} (ends e) (suc n) h = ap (one (lexed n) k bs) e
exact {k = k} {bs = bs} (between m e d) (suc n) h = ap (one (lexed n) k bs) e ∙ exact {k = k + m} {bs = drop m bs} d n (omega arith)
exact {k = k} {bs = bs} (token kind m e d) (suc n) h = ap (one (lexed n) k bs) e ∙ ap (put (record { kind = kind; text = take m bs; offset = k })) (exact {k = k + m} {bs = drop m bs} d n (omega arith))
exact {k = k} {bs = bs} (later kind m e d) (suc n) h = ap (one (lexed n) k bs) e ∙ ap (put (record { kind = kind; text = take m bs; offset = k })) (exact {k = k + m} {bs = drop m bs} d n (omega arith))
exact {k = k} {bs = bs} (unclosed e) (suc n) h = ap (one (lexed n) k bs) e
exact {k = k} {bs = bs} (wide e) (suc n) h = ap (one (lexed n) k bs) e
exact {k = k} {bs = bs} (foreign e) (suc n) h = ap (one (lexed n) k bs) e

pub count_below : {k : ℕ} {bs : List ℕ} {r : Result (List Token) LexError} (d : Lexed k bs r) → count d ≤ length bs
unfolding count
count_below (ends e) = omega arith
count_below {bs = bs} (between m e d) = let p = between_some bs m e in let i = count_below {bs = drop m bs} d in omega (arith, length-drop m bs)
count_below {bs = bs} (token kind m e d) = let p = token_some bs kind m e in let i = count_below {bs = drop m bs} d in omega (arith, length-drop m bs)
count_below {bs = bs} (later kind m e d) = let p = token_some bs kind m e in let i = count_below {bs = drop m bs} d in omega (arith, length-drop m bs)
count_below (unclosed e) = omega arith
count_below (wide e) = omega arith
count_below (foreign e) = omega arith

-- what the relation says is what is computed
pub said : (bs : List ℕ) (r : Result (List Token) LexError) → Lexed 0 bs r → tokens_of bs ≡ r
said bs r d = exact d (suc (length bs)) (omega (arith, count_below d))

emitted : (k : ℕ) (bs : List ℕ) (kind : TokenKind) (m : ℕ) (r : Result (List Token) LexError) → piece bs ≡ Lexeme kind m → Lexed (k + m) (drop m bs) r → Lexed k bs (put (record { kind = kind; text = take m bs; offset = k }) r)
emitted k bs kind m (Ok ts) e d = token kind m e d
emitted k bs kind m (Err f) e d = later kind m e d

at_piece : (n k : ℕ) (bs : List ℕ) (p : Piece) → piece bs ≡ p → length bs < suc n → ((m : ℕ) → length (drop m bs) < n → Lexed (k + m) (drop m bs) (lexed n (k + m) (drop m bs))) → Lexed k bs (one (lexed n) k bs p)
at_piece n k bs Nothing e h f = ends e
at_piece n k bs (Between m) e h f = let p = between_some bs m e in between m e (f m (omega (arith, length-drop m bs)))
at_piece n k bs (Lexeme kind m) e h f = let p = token_some bs kind m e in emitted k bs kind m (lexed n (k + m) (drop m bs)) e (f m (omega (arith, length-drop m bs)))
at_piece n k bs OpenComment e h f = unclosed e
at_piece n k bs WideNumber e h f = wide e
at_piece n k bs ForeignByte e h f = foreign e

-- what is computed, the relation says
pub computed : (n k : ℕ) (bs : List ℕ) → length bs < n → Lexed k bs (lexed n k bs)
unfolding lexed
computed zero k bs h = absurd (omega arith)
computed (suc n) k bs h = at_piece n k bs (piece bs) refl h (λ m e. computed n (k + m) (drop m bs) e)
