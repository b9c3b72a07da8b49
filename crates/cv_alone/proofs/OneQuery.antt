-- A file with one query alone has one query.
use Rattle.std.proofs.Common.{◌≡◌, ℕ, ◌+◌, ◌-◌, ◌<◌, ◌≤◌, inl, inr, Bool, true, false, ◌==◌, if◌then◌else◌, List, [], ◌∷◌, take, drop, Result, Ok, Err, refl, ap, sym, ◌∙◌, subst, arith, codes}
use Rattle.std.specs.Prelude.{nat_le, nat_lt, not}
use Rattle.std.specs.List.{AllByRecursion}
use Rattle.std.specs.Str.{bytes_eq}
use Rattle.std.proofs.lemmas.Bool.{and_parts, cases_lt, cond_both, eqb-false, eqb-true, le-leb, lt-leb, ltb-true, not-false, not-true}
use Rattle.cv_lex.specs.declared.LexError.{LexError}
use Rattle.cv_lex.specs.declared.TokenKind.{TokenKind}
use Rattle.cv_lex.specs.declared.TokenKind.TheVariants.{Ident, Number, Symbol, End}
use Rattle.cv_lex.specs.declared.scan.Piece.TheVariants.{Lexeme}
use Rattle.cv_lex.specs.Lexis.{IsToken, Token, Lexed, ends, between, token, later, unclosed, wide, foreign, piece, tokens_of}
use Rattle.cv_lex.proofs.Exact.{computed}
use Rattle.cv_lex.proofs.Pieces.{lexeme, token_not_end}
use Rattle.cv_alone.specs.declared.parts.Part.{Part}
use Rattle.cv_alone.specs.declared.parts.Part.TheVariants.{Outside, Query, Block}
use Rattle.cv_alone.specs.declared.parts.Reading.{Reading}
use Rattle.cv_alone.specs.Alone.{has_query}
use Rattle.cv_alone.specs.Parts.{at_start, at_token, behind_all, behind_token, block_behind, is_left_out, is_other, tokens_kept, kept_from, part_behind, put_if, queries_in, stays}

abbrev step : Reading → List ℕ → Reading
step r text = behind_token (at_token r text) text

abbrev at : Part → ℕ → Reading
at part queries = record { part = part; queries = queries }

-- what a reading of the file is to what stays of it

abbrev seen_part : Part → (is_number : Bool) → Part
seen_part Outside is_number = Outside
seen_part Query is_number = if is_number then Query else Outside
seen_part (Block depth) is_number = Outside

in_block : (depth : ℕ) (text : List ℕ) (x : Bool) → seen_part (part_behind (Block depth) text) x ≡ Outside
in_block depth text x =
    cond_both (bytes_eq text (codes "{")) (Block (depth + 1)) (if bytes_eq text (codes "}") then block_behind depth else Block depth) (λ p. seen_part p x ≡ Outside) (λ _. refl)
    (λ _. cond_both (bytes_eq text (codes "}")) (block_behind depth) (Block depth) (λ p. seen_part p x ≡ Outside)
    (λ _. cond_both (depth == 1) Outside (Block (depth - 1)) (λ p. seen_part p x ≡ Outside) (λ _. refl) (λ _. refl))
    (λ _. refl))

in_query : (text : List ℕ) → seen_part (part_behind Query text) true ≡ part_behind Query text
in_query text = cond_both (bytes_eq text (codes ".")) Outside Query (λ p. seen_part p true ≡ p) (λ _. refl) (λ _. refl)

in_other_query : (text : List ℕ) → seen_part (part_behind Query text) false ≡ Outside
in_other_query text = cond_both (bytes_eq text (codes ".")) Outside Query (λ p. seen_part p false ≡ Outside) (λ _. refl) (λ _. refl)

-- outside of all parts, by whether the text is a word `query` or `proof`

abbrev outside_at : (query proof : Bool) → Part
outside_at x y = if x then Query else (if y then Block 0 else Outside)

abbrev outside_step : (query proof : Bool) → ℕ → List ℕ → Reading
outside_step x y q text = at (part_behind (outside_at x y) text) (if x then q + 1 else q)

module _ (number : ℕ) where
  abbrev begun : ℕ → ℕ
  begun queries = if nat_le number queries then 1 else 0

  abbrev seen : Reading → Reading
  seen r = at (seen_part r.part (r.queries == number)) (begun r.queries)

  abbrev is_out : Part → ℕ → Bool
  is_out part queries = is_other part (queries == number)

  same_begun : (q : ℕ) → (q + 1 == number) ≡ false → begun q ≡ begun (q + 1)
  same_begun q e =
      let other = eqb-false (q + 1) number e in
      elim (cases_lt q number) [
        | inl less ↦ let further : q + 1 < number = omega arith in (λ i. if lt-leb number q less i then 1 else 0) ∙ sym (λ i. if lt-leb number (q + 1) further i then 1 else 0)
        | inr more ↦ let further : number ≤ q + 1 = omega arith in (λ i. if le-leb number q more i then 1 else 0) ∙ sym (λ i. if le-leb number (q + 1) further i then 1 else 0)
      ]

  -- a token that stays

  outside_kept : (x y : Bool) (q : ℕ) (text : List ℕ) → is_out (outside_at x y) (if x then q + 1 else q) ≡ false → outside_step x y (begun q) text ≡ seen (outside_step x y q text)
  outside_kept true y q text h =
      let same : (q + 1 == number) ≡ true = not-false (q + 1 == number) h in
      let number_is = eqb-true (q + 1) number same in
      let less : q < number = omega arith in
      let most : number ≤ q + 1 = omega arith in
      let part = sym (ap (seen_part (part_behind Query text)) same ∙ in_query text) in
      let queries : begun q + 1 ≡ begun (q + 1) = (λ i. (if lt-leb number q less i then 1 else 0) + 1) ∙ sym (λ i. if le-leb number (q + 1) most i then 1 else 0) in
      λ i. at (part i) (queries i)
  outside_kept false true q text h = absurd (cc)
  outside_kept false false q text h = refl

  kept_step : (part : Part) (q : ℕ) (text : List ℕ) → is_left_out number (at_token (at part q) text) ≡ false → step (seen (at part q)) text ≡ seen (step (at part q) text)
  kept_step Outside q text h = outside_kept (bytes_eq text (codes "query")) (bytes_eq text (codes "proof")) q text h
  kept_step Query q text h =
      let same : (q == number) ≡ true = not-false (q == number) h in
      ap (λ x. step (at (if x then Query else Outside) (begun q)) text) same
      ∙ (λ i. at (sym (ap (seen_part (part_behind Query text)) same ∙ in_query text) i) (begun q))
  kept_step (Block depth) q text h = absurd (cc)

  -- a token that is left out

  outside_left : (x y : Bool) (q : ℕ) (text : List ℕ) → is_out (outside_at x y) (if x then q + 1 else q) ≡ true → at Outside (begun q) ≡ seen (outside_step x y q text)
  outside_left true y q text h =
      let other : (q + 1 == number) ≡ false = not-true (q + 1 == number) h in
      let part = sym (ap (seen_part (part_behind Query text)) other ∙ in_other_query text) in
      λ i. at (part i) (same_begun q other i)
  outside_left false true q text h = λ i. at (sym (in_block 0 text (q == number)) i) (begun q)
  outside_left false false q text h = absurd (cc)

  left_step : (part : Part) (q : ℕ) (text : List ℕ) → is_left_out number (at_token (at part q) text) ≡ true → seen (at part q) ≡ seen (step (at part q) text)
  left_step Outside q text h = outside_left (bytes_eq text (codes "query")) (bytes_eq text (codes "proof")) q text h
  left_step Query q text h =
      let other : (q == number) ≡ false = not-true (q == number) h in
      (λ i. at (if other i then Query else Outside) (begun q))
      ∙ (λ i. at (sym (ap (seen_part (part_behind Query text)) other ∙ in_other_query text) i) (begun q))
  left_step (Block depth) q text h = λ i. at (sym (in_block depth text (q == number)) i) (begun q)

  -- the end token, whose text is empty

  end_by : (x : Bool) (queries : ℕ) → step (at (if x then Query else Outside) queries) [] ≡ at (if x then Query else Outside) queries
  end_by true queries = refl
  end_by false queries = refl

  end_step : (part : Part) (q : ℕ) → step (seen (at part q)) [] ≡ seen (step (at part q) [])
  end_step Outside q = refl
  end_step Query q = end_by (q == number) (begun q)
  end_step (Block depth) q = refl

  -- all tokens

  other_read : (r : Reading) (t : Token) (rest : List Token) (out : Bool) → is_left_out number (at_token r t.text) ≡ out → behind_all (seen r) (put_if (not (is_left_out number (at_token r t.text))) t rest) ≡ behind_all (seen (step r t.text)) rest
  unfolding behind_all
  other_read r t rest true o = ap (λ x. behind_all (seen r) (put_if (not x) t rest)) o ∙ ap (λ s. behind_all s rest) (left_step r.part r.queries t.text o)
  other_read r t rest false o = ap (λ x. behind_all (seen r) (put_if (not x) t rest)) o ∙ ap (λ s. behind_all s rest) (kept_step r.part r.queries t.text o)

  token_read : (r : Reading) (kind : TokenKind) (text : List ℕ) (offset : ℕ) (rest : List Token) → (kind ≡ End → text ≡ []) →
      behind_all (seen r) (put_if (stays number (at_token r text) kind) (record { kind = kind; text = text; offset = offset }) rest) ≡ behind_all (seen (step r text)) rest
  unfolding behind_all
  token_read r End text offset rest e =
      ap (λ s. behind_all s rest) (ap (step (seen r)) (e refl) ∙ end_step r.part r.queries ∙ sym (ap (λ x. seen (step r x)) (e refl)))
  token_read r Ident text offset rest e = other_read r (record { kind = Ident; text = text; offset = offset }) rest _ refl
  token_read r (Number v) text offset rest e = other_read r (record { kind = Number v; text = text; offset = offset }) rest _ refl
  token_read r Symbol text offset rest e = other_read r (record { kind = Symbol; text = text; offset = offset }) rest _ refl

  all_read : (r : Reading) (ts : List Token) → AllByRecursion (λ t. t.kind ≡ End → t.text ≡ []) ts → behind_all (seen r) (kept_from number r ts) ≡ seen (behind_all r ts)
  unfolding behind_all kept_from
  all_read r [] a = refl
  all_read r (t ∷ ts) a = token_read r t.kind t.text t.offset (kept_from number (step r t.text) ts) a.0 ∙ all_read (step r t.text) ts a.1

-- the text of an end token is empty

abbrev HaveEnds : Result (List Token) LexError → Type 0
HaveEnds (Ok ts) = AllByRecursion (λ t. t.kind ≡ End → t.text ≡ []) ts
HaveEnds (Err e) = Unit {0}

no_end : (bs : List ℕ) (kind : TokenKind) (n : ℕ) → piece bs ≡ Lexeme kind n → kind ≡ End → ⊥
no_end bs kind n e same = token_not_end (take n bs) (subst (λ x. IsToken x (take n bs)) same (lexeme bs kind n e).alone)

have_ends : {k : ℕ} {bs : List ℕ} {r : Result (List Token) LexError} → Lexed k bs r → HaveEnds r
have_ends (ends e) = (λ _. refl, tt)
have_ends {k = k} {bs = bs} (between n e d) = have_ends {k = k + n} {bs = drop n bs} d
have_ends {k = k} {bs = bs} (token kind n e d) = (λ same. absurd (no_end bs kind n e same), have_ends {k = k + n} {bs = drop n bs} d)
have_ends (later kind n e d) = tt
have_ends (unclosed e) = tt
have_ends (wide e) = tt
have_ends (foreign e) = tt

pub one_query : (number : ℕ) (bytes : List ℕ) (ts : List Token) → tokens_of bytes ≡ Ok ts → has_query number ts ≡ true → queries_in (tokens_kept number ts) ≡ 1
one_query number bytes ts e h =
    let parts = and_parts (nat_lt 0 number) (nat_le number (queries_in ts)) h in
    let some = ltb-true 0 number parts.0 in
    let all : HaveEnds (Ok ts) = subst HaveEnds e (have_ends {k = 0} {bs = bytes} (computed _ 0 bytes (omega arith))) in
    let start : seen number at_start ≡ at_start = λ i. at Outside (if lt-leb number 0 some i then 1 else 0) in
    ap (λ s. (behind_all s (tokens_kept number ts)).queries) (sym start)
    ∙ ap (λ (r : Reading). r.queries) (all_read number at_start ts all)
    ∙ (λ i. if parts.1 i then 1 else 0)
