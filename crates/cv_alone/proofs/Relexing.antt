-- The tokens of a file with one query alone.
use Rattle.std.proofs.Common.{◌≡◌, ℕ, zero, suc, ◌+◌, ◌<◌, ◌≤◌, Bool, true, false, ◌==◌, ◌||◌, inl, inr, if◌then◌else◌, List, [], ◌∷◌, length, take, drop, Result, Ok, Err, refl, ap, sym, ◌∙◌, subst, arith}
use Rattle.std.specs.Prelude.{not}
use Rattle.std.specs.List.{AllByRecursion}
use Rattle.std.proofs.lemmas.Bool.{and_from, and_left, and_right, cases_Bool, cond-true, eqb-true, le-leb, le-ltb, lt-leb, lt-ltb, or_from}
use Rattle.std.proofs.lemmas.List.{length-take-le, nil_from_length}
use Rattle.cv_lex.specs.declared.LexError.{LexError}
use Rattle.cv_lex.specs.declared.TokenKind.{TokenKind}
use Rattle.cv_lex.specs.declared.TokenKind.TheVariants.{Ident, Number, Symbol, End}
use Rattle.cv_lex.specs.declared.scan.Piece.TheVariants.{Nothing, Between, Lexeme}
use Rattle.cv_lex.specs.Lexis.{IsToken, Token, Lexed, ends, between, token, later, unclosed, wide, foreign, end_token, is_blank, piece, tokens_of}
use Rattle.cv_lex.proofs.Exact.{computed, said}
use Rattle.cv_lex.proofs.Pieces.{lexeme, nothing_left, token_not_end}
use Rattle.cv_alone.specs.declared.parts.Reading.{Reading}
use Rattle.cv_alone.specs.Alone.{alone, alone_by, has_query, is_in_line, is_of, with_spaces, with_spaces_from}
use Rattle.cv_alone.specs.Parts.{at_start, at_token, behind_token, is_left_out, tokens_kept, kept_from, tokens_left_out, left_out_from, put_if, stays}
use Rattle.cv_alone.proofs.Fronts.{Stays, after, drop_after, piece_between, piece_lexeme, take_stays}
use Rattle.cv_alone.proofs.Spacing.{in_line, of}

abbrev Lexing : Type 0
Lexing = Result (List Token) LexError

-- tokens behind an offset

abbrev pub AreBehind : ℕ → Lexing → Type 0
AreBehind k (Ok ts) = AllByRecursion (λ t. k ≤ t.offset) ts
AreBehind k (Err e) = Unit {0}

further : (k m : ℕ) → m ≤ k → (ts : List Token) → AllByRecursion (λ t. k ≤ t.offset) ts → AllByRecursion (λ t. m ≤ t.offset) ts
further k m h [] a = tt
further k m h (t ∷ ts) a = (omega (arith, a.0), further k m h ts a.1)

behind_result : (k m : ℕ) → m ≤ k → (r : Lexing) → AreBehind k r → AreBehind m r
behind_result k m h (Ok ts) a = further k m h ts a
behind_result k m h (Err e) a = tt

pub are_behind : {k : ℕ} {bs : List ℕ} {r : Lexing} → Lexed k bs r → AreBehind k r
are_behind {k = k} (ends e) = (omega arith, tt)
are_behind {k = k} {bs = bs} {r = r} (between n e d) = behind_result (k + n) k (omega arith) r (are_behind {k = k + n} {bs = drop n bs} d)
are_behind {k = k} {bs = bs} (token {ts = ts} kind n e d) = (omega arith, further (k + n) k (omega arith) ts (are_behind {k = k + n} {bs = drop n bs} d))
are_behind (later kind n e d) = tt
are_behind (unclosed e) = tt
are_behind (wide e) = tt
are_behind (foreign e) = tt

-- a byte before some tokens is none of those of them that are left out
pub none_before : (number : ℕ) (r : Reading) (k j : ℕ) → j < k → (ts : List Token) → AllByRecursion (λ t. k ≤ t.offset) ts → is_of (left_out_from number r ts) j ≡ false
unfolding left_out_from
none_before number r k j h [] a = refl
none_before number r k j h (t ∷ ts) a =
    by (is_left_out number (at_token r t.text)) (left_out_from number (behind_token (at_token r t.text) t.text) ts)
    (none_before number (behind_token (at_token r t.text) t.text) k j h ts a.1)
  where
    by : (out : Bool) (us : List Token) → is_of us j ≡ false → is_of (put_if out t us) j ≡ false
    by true us e = or_from _ _ (and_left _ _ (lt-leb t.offset j (omega (arith, a.0)))) e
    by false us e = e

-- behind a token its bytes are over
pub over : (t : Token) (j : ℕ) (out : Bool) (us : List Token) → t.offset + length t.text ≤ j → is_of (put_if out t us) j ≡ is_of us j
over t j true us h = ap (λ x. x || is_of us j) (and_right _ _ (le-ltb j (t.offset + length t.text) h))
over t j false us h = refl

-- the tokens of the text with spaces

module _ (number : ℕ) (p : ℕ → Bool) where
  -- from an offset on exactly what is left out becomes spaces
  abbrev Fits : ℕ → Reading → Lexing → Type 0
  Fits k r (Ok ts) = (j : ℕ) → k ≤ j → p j ≡ is_of (left_out_from number r ts) j
  Fits k r (Err e) = Unit {0}

  abbrev IsKept : ℕ → List ℕ → Reading → Lexing → Type 0
  IsKept k bs r (Ok ts) = Lexed k (after p k bs) (Ok (kept_from number r ts))
  IsKept k bs r (Err e) = Unit {0}

  -- so many spaces
  over_spaces : (k n : ℕ) (bs : List ℕ) (ts : List Token) → n ≤ length bs → ((j : ℕ) → k ≤ j → j < k + n → p j ≡ true) → Lexed (k + n) (after p (k + n) (drop n bs)) (Ok ts) → Lexed k (after p k bs) (Ok ts)
  unfolding with_spaces_from
  over_spaces k zero bs ts h s d = let same : k + 0 ≡ k = omega arith in subst (λ m. Lexed m (after p m bs) (Ok ts)) same d
  over_spaces k (suc n) [] ts h s d = absurd (omega arith)
  over_spaces k (suc n) (b ∷ bs) ts h s d =
      let same : k + suc n ≡ k + 1 + n = omega arith in
      let here : (if p k then 32 else b) ≡ 32 = (λ i. if s k (omega arith) (omega arith) i then 32 else b) in
      let rest : Lexed (k + 1) (after p (k + 1) bs) (Ok ts) = over_spaces (k + 1) n bs ts (omega arith) (λ j l m. s j (omega arith) (omega arith)) (subst (λ m. Lexed m (after p m (drop n bs)) (Ok ts)) same d) in
      between 1 (ap (λ x. piece (x ∷ after p (k + 1) bs)) here) rest

  stays_by : (s : Reading) (kind : TokenKind) → (kind ≡ End → ⊥) → stays number s kind ≡ not (is_left_out number s)
  stays_by s End other = absurd (other refl)
  stays_by s Ident other = refl
  stays_by s (Number v) other = refl
  stays_by s Symbol other = refl

  -- a token, and those behind it
  module _ (k : ℕ) (bs : List ℕ) (ts : List Token) (kind : TokenKind) (n : ℕ) (s : Reading) (e : piece bs ≡ Lexeme kind n) (far : AllByRecursion (λ t. k + n ≤ t.offset) ts) where
    abbrev here : Reading
    here = at_token s (take n bs)

    abbrev next : Reading
    next = behind_token here (take n bs)

    abbrev first : Token
    first = record { kind = kind; text = take n bs; offset = k }

    long : length (take n bs) ≡ n
    long = length-take-le n bs (lexeme bs kind n e).within

    next_fits : Fits k s (Ok (first ∷ ts)) → Fits (k + n) next (Ok ts)
    unfolding left_out_from
    next_fits f j h = f j (omega arith) ∙ over first j (is_left_out number here) (left_out_from number next ts) (omega (arith, long))

    no_end : kind ≡ End → ⊥
    no_end same = token_not_end (take n bs) (subst (λ x. IsToken x (take n bs)) same (lexeme bs kind n e).alone)

    kept_first : (out : Bool) → is_left_out number here ≡ out → Fits k s (Ok (first ∷ ts)) → IsKept (k + n) (drop n bs) next (Ok ts) → IsKept k bs s (Ok (first ∷ ts))
    unfolding left_out_from kept_from
    kept_first true o f rest =
        let gone : stays number here kind ≡ false = stays_by here kind no_end ∙ ap not o in
        let spaces : (j : ℕ) → k ≤ j → j < k + n → p j ≡ true = λ j h l.
        f j h ∙ (λ i. is_of (put_if (o i) first (left_out_from number next ts)) j)
        ∙ ap (λ x. x || is_of (left_out_from number next ts) j) (and_from _ _ (le-leb k j h) (lt-ltb j (k + length (take n bs)) (omega (arith, long))))
        in
        subst (λ us. Lexed k (after p k bs) (Ok us)) (ap (λ x. put_if x first (kept_from number next ts)) (sym gone))
        (over_spaces k n bs (kept_from number next ts) (lexeme bs kind n e).within spaces rest)
    kept_first false o f rest =
        let there : stays number here kind ≡ true = stays_by here kind no_end ∙ ap not o in
        let same : Stays p k n = λ j h l.
        f j h ∙ (λ i. is_of (put_if (o i) first (left_out_from number next ts)) j) ∙ none_before number next (k + n) j l ts far
        in
        let more : Lexed (k + n) (drop n (after p k bs)) (Ok (kept_from number next ts)) = subst (λ l. Lexed (k + n) l (Ok (kept_from number next ts))) (sym (drop_after p k n bs)) rest in
        subst (λ us. Lexed k (after p k bs) (Ok us))
        ((λ i. record { kind = kind; text = take_stays p k n bs same i; offset = k } ∷ kept_from number next ts) ∙ ap (λ x. put_if x first (kept_from number next ts)) (sym there))
        (token kind n (piece_lexeme p k bs kind n e same) more)

  kept_between : (k : ℕ) (bs : List ℕ) (n : ℕ) (r : Lexing) (s : Reading) → piece bs ≡ Between n → AreBehind (k + n) r → Fits k s r → IsKept (k + n) (drop n bs) s r → IsKept k bs s r
  kept_between k bs n (Err e) s b far f rest = tt
  kept_between k bs n (Ok ts) s b far f rest =
      let same : Stays p k n = λ j h l. f j h ∙ none_before number s (k + n) j l ts far in
      between n (piece_between p k bs n b same) (subst (λ l. Lexed (k + n) l (Ok (kept_from number s ts))) (sym (drop_after p k n bs)) rest)

  fits_further : (k n : ℕ) (s : Reading) (r : Lexing) → Fits k s r → Fits (k + n) s r
  fits_further k n s (Ok ts) f = λ j h. f j (omega arith)
  fits_further k n s (Err e) f = tt

  kept_end : (k : ℕ) (bs : List ℕ) (s : Reading) → piece bs ≡ Nothing → IsKept k bs s (Ok (end_token k ∷ []))
  unfolding with_spaces_from kept_from
  kept_end k bs s e = ends (ap (λ l. piece (after p k l)) (nil_from_length bs (nothing_left bs e)))

  kept_lexed : {k : ℕ} {bs : List ℕ} {r : Lexing} (d : Lexed k bs r) (s : Reading) → Fits k s r → IsKept k bs s r
  kept_lexed {k = k} {bs = bs} (ends e) s f = kept_end k bs s e
  kept_lexed {k = k} {bs = bs} {r = r} (between n e d) s f = kept_between k bs n r s e (are_behind {k = k + n} {bs = drop n bs} d) f (kept_lexed {k = k + n} {bs = drop n bs} d s (fits_further k n s r f))
  kept_lexed {k = k} {bs = bs} (token {ts = ts} kind n e d) s f =
      let far = are_behind {k = k + n} {bs = drop n bs} d in
      kept_first k bs ts kind n s e far (is_left_out number (at_token s (take n bs))) refl f
      (kept_lexed {k = k + n} {bs = drop n bs} d (next k bs ts kind n s e far) (next_fits k bs ts kind n s e far f))
  kept_lexed (later kind n e d) s f = tt
  kept_lexed (unclosed e) s f = tt
  kept_lexed (wide e) s f = tt
  kept_lexed (foreign e) s f = tt

pub tokens_alone : (k : ℕ) (bytes : List ℕ) (ts : List Token) → tokens_of bytes ≡ Ok ts → has_query k ts ≡ true → tokens_of (alone k bytes) ≡ Ok (tokens_kept k ts)
tokens_alone k bytes ts e h =
    let alone_is : alone k bytes ≡ with_spaces (of (tokens_left_out k ts)) bytes = ap (alone_by k bytes) e ∙ (λ i. if h i then with_spaces (of (tokens_left_out k ts)) bytes else with_spaces in_line bytes) in
    let lexed_by : Lexed 0 bytes (Ok ts) = subst (Lexed 0 bytes) e (computed _ 0 bytes (omega arith)) in
    ap tokens_of alone_is ∙ said (with_spaces (of (tokens_left_out k ts)) bytes) (Ok (tokens_kept k ts)) (kept_lexed k (is_of (tokens_left_out k ts)) lexed_by at_start (λ j l. refl))

-- nothing but blanks

blank_left : (b : ℕ) → is_blank (if is_in_line b then 32 else b) ≡ true
blank_left b =
    elim (cases_Bool (b == 10)) [
      | inl e ↦ subst (λ x. is_blank (if is_in_line x then 32 else x) ≡ true) (sym (eqb-true b 10 e)) refl
      | inr e ↦ elim (cases_Bool (b == 13)) [
        | inl f ↦ subst (λ x. is_blank (if is_in_line x then 32 else x) ≡ true) (sym (eqb-true b 13 f)) refl
        | inr f ↦ λ i. is_blank (if not (e i || f i) then 32 else b)
      ]
    ]

blanks_lexed : (k : ℕ) (bs : List ℕ) → Lexed k (with_spaces_from in_line k bs) (Ok (end_token (k + length bs) ∷ []))
unfolding with_spaces_from
blanks_lexed k [] = let same : k ≡ k + 0 = omega arith in subst (λ m. Lexed k [] (Ok (end_token m ∷ []))) same (ends refl)
blanks_lexed k (b ∷ bs) =
    let same : k + 1 + length bs ≡ k + suc (length bs) = omega arith in
    between 1 (cond-true _ _ _ (blank_left b)) (subst (λ m. Lexed (k + 1) (with_spaces_from in_line (k + 1) bs) (Ok (end_token m ∷ []))) same (blanks_lexed (k + 1) bs))

pub no_tokens : (k : ℕ) (bytes : List ℕ) (ts : List Token) → tokens_of bytes ≡ Ok ts → has_query k ts ≡ false → tokens_of (alone k bytes) ≡ Ok (end_token (length bytes) ∷ [])
no_tokens k bytes ts e h =
    let alone_is : alone k bytes ≡ with_spaces in_line bytes = ap (alone_by k bytes) e ∙ (λ i. if h i then with_spaces (of (tokens_left_out k ts)) bytes else with_spaces in_line bytes) in
    let same : 0 + length bytes ≡ length bytes = omega arith in
    ap tokens_of alone_is ∙ said (with_spaces in_line bytes) (Ok (end_token (length bytes) ∷ [])) (subst (λ m. Lexed 0 (with_spaces in_line bytes) (Ok (end_token m ∷ []))) same (blanks_lexed 0 bytes))
