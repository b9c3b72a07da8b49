-- The list that a `Tokens` stands for, when its buffer grows and when a token is added.
use Rattle.std.proofs.Common.{◌≡◌, ℕ, ◌+◌, ◌-◌, ◌<◌, ◌≤◌, List, [], ◌∷◌, ◌++◌, length, take, drop, refl, ap, sym, ◌∙◌, arith, subst, IsAscii}
use Rattle.std.specs.Prelude.{All, slice_range}
use Rattle.std.proofs.lemmas.List.{append_assoc, length-append, length-drop, length_push, take-append-le, drop-append-le, take_at, drop_at, take_all, map_push}
use Rattle.std.proofs.lemmas.List.Elements.{All-head, All-tail, All-push, All-weaker}
use Rattle.std.proofs.lemmas.Str.{IsAscii-append}
use Rattle.cv_lex.specs.declared.TokenKind.{TokenKind}
use Rattle.cv_lex.specs.declared.token_list.Entry.{Entry}
use Rattle.cv_lex.specs.Lexis.{Token, IsToken}
use Rattle.cv_lex.specs.View.{token_in, tokens_in, with_token, IsWhole}

-- the entry's text lies within so many bytes
abbrev Within : ℕ → Entry → Type 0
Within n e = (e.start ≤ e.end) × (e.end ≤ n)

range_append : (buffer more : List ℕ) (start end : ℕ) → start ≤ end → end ≤ length buffer → slice_range (buffer ++ more) start end ≡ slice_range buffer start end
range_append buffer more start end h k =
    ap (take (end - start)) (drop-append-le start buffer more (omega arith))
    ∙ take-append-le (end - start) (drop start buffer) more (omega (arith, length-drop start buffer))

token_in_append : (buffer more : List ℕ) (e : Entry) → Within (length buffer) e → token_in (buffer ++ more) e ≡ token_in buffer e
token_in_append buffer more e h = ap (λ t. record { kind = e.kind; text = t; offset = e.offset }) (range_append buffer more e.start e.end h.0 h.1)

-- a longer buffer has the same tokens
pub tokens_in_append : (buffer more : List ℕ) (entries : List Entry) → All (Within (length buffer)) entries → tokens_in (buffer ++ more) entries ≡ tokens_in buffer entries
tokens_in_append buffer more [] h = refl
tokens_in_append buffer more (e ∷ es) h =
    let first = token_in_append buffer more e (All-head (Within (length buffer)) e es h) in
    let rest = tokens_in_append buffer more es (All-tail (Within (length buffer)) e es h) in
    λ i. first i ∷ rest i

within_more : (buffer more : List ℕ) (entries : List Entry) → All (Within (length buffer)) entries → All (Within (length (buffer ++ more))) entries
within_more buffer more entries h =
    All-weaker (Within (length buffer)) (Within (length (buffer ++ more))) (λ e w. (w.0, omega (arith, length-append buffer more, w.1))) entries h

pub whole_append : (buffer more : List ℕ) (entries : List Entry) → IsWhole buffer entries → IsAscii more → IsWhole (buffer ++ more) entries
whole_append buffer more entries w a = record {
  ascii = IsAscii-append buffer more w.ascii a;
  within = within_more buffer more entries w.within;
  each = subst (All (λ t. IsToken t.kind t.text)) (sym (tokens_in_append buffer more entries w.within)) w.each;
  few = w.few;
}

-- a text behind the buffer, with the entry for it
module _ (buffer text : List ℕ) (entries : List Entry) (kind : TokenKind) (offset : ℕ) (w : IsWhole buffer entries) where
  abbrev Added : Entry
  Added = record { kind = kind; offset = offset; start = length buffer; end = length buffer + length text }

  added_token : token_in (buffer ++ text) Added ≡ record { kind = kind; text = text; offset = offset }
  added_token =
      let rest : drop (length buffer) (buffer ++ text) ≡ text = drop_at buffer text (length buffer) refl in
      let n : length buffer + length text - length buffer ≡ length text = omega arith in
      ap (λ t. record { kind = kind; text = t; offset = offset }) ((λ i. take (n i) (rest i)) ∙ take_all (length text) text (omega arith))

  pub tokens_in_added : tokens_in (buffer ++ text) (entries ++ Added ∷ []) ≡ tokens_in buffer entries ++ record { kind = kind; text = text; offset = offset } ∷ []
  tokens_in_added =
      map_push (token_in (buffer ++ text)) entries Added ∙ (λ i. tokens_in_append buffer text entries w.within i ++ added_token i ∷ [])

  pub whole_added : IsToken kind text → IsAscii text → length entries + 1 < 4294967295 → IsWhole (buffer ++ text) (entries ++ Added ∷ [])
  whole_added token a room = record {
    ascii = IsAscii-append buffer text w.ascii a;
    within = All-push (Within (length (buffer ++ text))) entries Added (within_more buffer text entries w.within) (omega arith, omega (arith, length-append buffer text));
    each = subst (All (λ t. IsToken t.kind t.text)) (sym tokens_in_added) (All-push (λ t. IsToken t.kind t.text) (tokens_in buffer entries) (record { kind = kind; text = text; offset = offset }) w.each token);
    few = omega (arith, length_push entries Added);
  }

-- the last token stays the last
pub with_token_append : (front : List Token) (last t : Token) → with_token (front ++ last ∷ []) t ≡ (front ++ t ∷ []) ++ last ∷ []
with_token_append front last t =
    let n : length (front ++ last ∷ []) - 1 ≡ length front = omega (arith, length_push front last) in
    (λ i. take (n i) (front ++ last ∷ []) ++ t ∷ drop (n i) (front ++ last ∷ []))
    ∙ (λ i. take_at front (last ∷ []) (length front) refl i ++ t ∷ drop_at front (last ∷ []) (length front) refl i)
    ∙ sym (append_assoc front (t ∷ []) (last ∷ []))
