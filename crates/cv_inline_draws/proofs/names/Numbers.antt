-- The number at the end of a text, digit by digit; and the greatest of many.
use Rattle.std.proofs.Common.{◌≡◌, ℕ, ◌+◌, ◌*◌, ◌^◌, ◌<◌, ◌≤◌, ◌==◌, ◌&&◌, nat_lt, if◌then◌else◌, List, [], ◌∷◌, length, take, drop, get_or, max, reverse, Some, refl, ap, ap₂, sym, ◌∙◌, arith}
use Rattle.std.proofs.lemmas.List.{reverse-append, take_more, drop_more, take_all, drop_all}
use Rattle.std.proofs.lemmas.Grind.{pow_more}
use Rattle.std.proofs.Math.Nat.{pow-le-pow_right}
use Rattle.std.specs.Prelude.{slice_get}
use Rattle.std.proofs.lemmas.Option.{get_or_from_slice_get}
use Rattle.cv_lex.specs.Lexis.{value_of}
use Rattle.cv_inline.specs.Draws.{end_number, greatest_end, is_digit, number_behind, number_written}
use Rattle.cv_inline_draws.specs.names.Texts.{text_at, texts_at}

-- what is left to read backwards, of a text that is read from a place on
abbrev pub behind : List ℕ → ℕ → ℕ
behind text start = number_behind (drop start text) (reverse (take start text))

-- one more text
pub greatest_more : (names : List (List ℕ)) (taken : List ℕ) (i g : ℕ) (t : List ℕ) → i < length taken → slice_get names (get_or taken i 0) ≡ Some t →
    max (max g (end_number t)) (greatest_end (texts_at names (drop (i + 1) taken))) ≡ max g (greatest_end (texts_at names (drop i taken)))
greatest_more names taken i g t small there =
    let u : text_at names (get_or taken i 0) ≡ t = get_or_from_slice_get names (get_or taken i 0) t [] there in
    max_more g (end_number t) (greatest_end (texts_at names (drop (i + 1) taken)))
    ∙ (ap (λ v. max g (max (end_number v) (greatest_end (texts_at names (drop (i + 1) taken))))) (sym u)
    ∙ ap (λ xs. max g (greatest_end (texts_at names xs))) (sym (drop_more taken i 0 small))) where
      max_more : (a b c : ℕ) → max (max a b) c ≡ max a (max b c)
      max_more a b c = omega arith
