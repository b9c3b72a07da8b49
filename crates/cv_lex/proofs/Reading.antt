-- What the loop over the pieces keeps.
use Rattle.std.proofs.Common.{◌≡◌, ℕ, suc, ◌+◌, ◌<◌, ◌≤◌, List, [], ◌∷◌, ◌++◌, length, take, drop, Result, Ok, Err, refl, ap, sym, ◌∙◌, arith, length-drop}
use Rattle.std.proofs.lemmas.List.{append_assoc, drop-drop, length_push}
use Rattle.cv_lex.specs.declared.TokenKind.{TokenKind}
use Rattle.cv_lex.specs.declared.LexError.{LexError}
use Rattle.cv_lex.specs.declared.LexError.TheVariants.{Char, CommentOpen, NumberWide}
use Rattle.cv_lex.specs.declared.scan.Piece.TheVariants.{Nothing, Between, Lexeme, OpenComment, WideNumber, ForeignByte}
use Rattle.cv_lex.specs.Lexis.{Token, lexed, piece, put, one, end_token, tokens_of}
use Rattle.cv_lex.specs.View.{with_token}
use Rattle.cv_lex.proofs.Exact.{exact, computed, count_below}
use Rattle.cv_lex.proofs.Pieces.{lexeme, between_bounds, nothing_left}
use Rattle.cv_lex.proofs.Listing.{with_token_append}

abbrev pub Lexing : Type 0
Lexing = Result (List Token) LexError

-- what is read from the offset on
abbrev pub lexed_at : ℕ → List ℕ → Lexing
lexed_at k bs = lexed (suc (length bs)) k bs

-- more steps than bytes give the same
pub lexed_same : (n m k : ℕ) (bs : List ℕ) → length bs < n → length bs < m → lexed n k bs ≡ lexed m k bs
lexed_same n m k bs h j = let d = computed m k bs j in exact d n (omega (arith, count_below d))

-- what each piece at the front reads as
pub at_nothing : (k : ℕ) (bs : List ℕ) → piece bs ≡ Nothing → lexed_at k bs ≡ Ok (end_token k ∷ [])
unfolding lexed
at_nothing k bs e = ap (one (lexed (length bs)) k bs) e

pub at_between : (k : ℕ) (bs : List ℕ) (n : ℕ) → piece bs ≡ Between n → lexed_at k bs ≡ lexed_at (k + n) (drop n bs)
unfolding lexed
at_between k bs n e =
    let f = between_bounds bs n e in
    ap (one (lexed (length bs)) k bs) e ∙ lexed_same (length bs) (suc (length (drop n bs))) (k + n) (drop n bs) (omega (arith, length-drop n bs, f.0, f.1)) (omega arith)

pub at_lexeme : (k : ℕ) (bs : List ℕ) (kind : TokenKind) (n : ℕ) → piece bs ≡ Lexeme kind n → lexed_at k bs ≡ put (record { kind = kind; text = take n bs; offset = k }) (lexed_at (k + n) (drop n bs))
unfolding lexed
at_lexeme k bs kind n e =
    let f = lexeme bs kind n e in
    ap (one (lexed (length bs)) k bs) e
    ∙ ap (put (record { kind = kind; text = take n bs; offset = k })) (lexed_same (length bs) (suc (length (drop n bs))) (k + n) (drop n bs) (omega (arith, length-drop n bs, f.some, f.within)) (omega arith))

pub at_comment : (k : ℕ) (bs : List ℕ) → piece bs ≡ OpenComment → lexed_at k bs ≡ Err (CommentOpen k)
unfolding lexed
at_comment k bs e = ap (one (lexed (length bs)) k bs) e

pub at_number : (k : ℕ) (bs : List ℕ) → piece bs ≡ WideNumber → lexed_at k bs ≡ Err (NumberWide k)
unfolding lexed
at_number k bs e = ap (one (lexed (length bs)) k bs) e

pub at_byte : (k : ℕ) (bs : List ℕ) → piece bs ≡ ForeignByte → lexed_at k bs ≡ Err (Char k)
unfolding lexed
at_byte k bs e = ap (one (lexed (length bs)) k bs) e

-- tokens in front of what follows them
abbrev after : List Token → Lexing → Lexing
after front (Ok ts) = Ok (front ++ ts)
after front (Err e) = Err e

after_nil : (r : Lexing) → after [] r ≡ r
after_nil (Ok ts) = refl
after_nil (Err e) = refl

after_put : (front : List Token) (t : Token) (r : Lexing) → after (front ++ t ∷ []) r ≡ after front (put t r)
after_put front t (Ok ts) = ap Ok (append_assoc front (t ∷ []) ts)
after_put front t (Err e) = refl

-- up to a place the text has these tokens, and an end token is behind them
pub record Reads (bytes : List ℕ) (found : List Token) (at : ℕ) : Type 0 where
  pub within : at ≤ length bytes
  pub front : List Token
  pub found_is : found ≡ front ++ end_token (length bytes) ∷ []
  pub few : length front ≤ at
  pub rest : after front (lexed_at at (drop at bytes)) ≡ tokens_of bytes

pub reads_none : (bytes : List ℕ) → Reads bytes (end_token (length bytes) ∷ []) 0
reads_none bytes = record { within = omega arith; front = []; found_is = refl; few = omega arith; rest = after_nil (tokens_of bytes) }

module _ (bytes : List ℕ) (found : List Token) (at : ℕ) (r : Reads bytes found at) where
  pub reads_between : (n : ℕ) → piece (drop at bytes) ≡ Between n → Reads bytes found (at + n)
  reads_between n e =
      let f = between_bounds (drop at bytes) n e in
      record {
        within = omega (arith, length-drop at bytes, f.1, r.within);
        front = r.front;
        found_is = r.found_is;
        few = omega (arith, r.few);
        rest =
            ap (λ bs. after r.front (lexed_at (at + n) bs)) (sym (drop-drop n at bytes))
            ∙ sym (ap (after r.front) (at_between at (drop at bytes) n e)) ∙ r.rest;
      }

  pub reads_lexeme : (kind : TokenKind) (n : ℕ) (more : List Token) → piece (drop at bytes) ≡ Lexeme kind n → more ≡ with_token found (record { kind = kind; text = take n (drop at bytes); offset = at }) → Reads bytes more (at + n)
  reads_lexeme kind n more e m =
      let f = lexeme (drop at bytes) kind n e in
      let t : Token = record { kind = kind; text = take n (drop at bytes); offset = at } in
      record {
        within = omega (arith, length-drop at bytes, f.within, r.within);
        front = r.front ++ t ∷ [];
        found_is = m ∙ ap (λ ts. with_token ts t) r.found_is ∙ with_token_append r.front (end_token (length bytes)) t;
        few = omega (arith, r.few, f.some, length_push r.front t);
        rest =
            after_put r.front t (lexed_at (at + n) (drop (at + n) bytes))
            ∙ ap (λ bs. after r.front (put t (lexed_at (at + n) bs))) (sym (drop-drop n at bytes))
            ∙ sym (ap (after r.front) (at_lexeme at (drop at bytes) kind n e)) ∙ r.rest;
      }

  pub reads_all : piece (drop at bytes) ≡ Nothing → tokens_of bytes ≡ Ok found
  reads_all e =
      let here : at ≡ length bytes = omega (arith, length-drop at bytes, nothing_left (drop at bytes) e, r.within) in
      sym r.rest ∙ ap (after r.front) (at_nothing at (drop at bytes) e) ∙ ap (λ k. Ok (r.front ++ end_token k ∷ [])) here ∙ ap Ok (sym r.found_is)

  pub reads_comment : piece (drop at bytes) ≡ OpenComment → tokens_of bytes ≡ Err (CommentOpen at)
  reads_comment e = sym r.rest ∙ ap (after r.front) (at_comment at (drop at bytes) e)

  pub reads_number : piece (drop at bytes) ≡ WideNumber → tokens_of bytes ≡ Err (NumberWide at)
  reads_number e = sym r.rest ∙ ap (after r.front) (at_number at (drop at bytes) e)

  pub reads_byte : piece (drop at bytes) ≡ ForeignByte → tokens_of bytes ≡ Err (Char at)
  reads_byte e = sym r.rest ∙ ap (after r.front) (at_byte at (drop at bytes) e)
