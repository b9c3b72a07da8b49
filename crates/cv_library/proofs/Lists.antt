-- Tokens by their places: ranges, and every second one.
use Rattle.std.proofs.Common.{◌≡◌, ℕ, zero, suc, ◌+◌, ◌-◌, ◌*◌, ◌<◌, ◌≤◌, List, [], ◌∷◌, ◌++◌, length, take, drop, get_or, refl, ap, sym, ◌∙◌, arith}
use Rattle.std.specs.Prelude.{slice_range}
use Rattle.std.proofs.lemmas.List.{drop_more, get_or-drop, length-drop, take_more, take_rest}
use Rattle.cv_lex.specs.Lexis.{Token, end_token}
use Rattle.cv_lex.specs.View.{AreTokens, token_at}
use Rattle.cv_lex.proofs.Places.{last_token}
use Rattle.cv_library.specs.Heads.{alternate}

-- one token more at the end of a range
pub range_push : (ts : List Token) (from k : ℕ) → from ≤ k → k < length ts → slice_range ts from (k + 1) ≡ slice_range ts from k ++ token_at ts k ∷ []
range_push ts from k h l =
    let far : k + 1 - from ≡ k - from + 1 = omega arith in
    let within : k - from < length (drop from ts) = omega (arith, length-drop from ts) in
    let same : from + (k - from) ≡ k = omega arith in
    ap (λ n. take n (drop from ts)) far
    ∙ take_more (drop from ts) (k - from) (end_token 0) within
    ∙ ap (λ t. take (k - from) (drop from ts) ++ t ∷ []) (get_or-drop from ts (k - from) (end_token 0) ∙ ap (λ n. get_or ts n (end_token 0)) same)

pub range_none : (ts : List Token) (from : ℕ) → slice_range ts from from ≡ []
range_none ts from = let none : from - from ≡ 0 = omega arith in ap (λ n. take n (drop from ts)) none

-- the first token of a range
pub range_first : (ts : List Token) (k to : ℕ) → k < to → k < length ts → slice_range ts k to ≡ token_at ts k ∷ slice_range ts (k + 1) to
range_first ts k to h l =
    let far : to - k ≡ suc (to - (k + 1)) = omega arith in
    ap (λ n. take n (drop k ts)) far ∙ ap (take (suc (to - (k + 1)))) (drop_more ts k (end_token 0) l)

-- the first of every second token
pub alternate_first : (ts : List Token) (from i count : ℕ) → i < count → alternate ts (from + 2 * i) (count - i) ≡ token_at ts (from + 2 * i) ∷ alternate ts (from + 2 * (i + 1)) (count - (i + 1))
alternate_first ts from i count h =
    let far : count - i ≡ suc (count - (i + 1)) = omega arith in
    let next : from + 2 * i + 2 ≡ from + 2 * (i + 1) = omega arith in
    ap (alternate ts (from + 2 * i)) far ∙ ap (λ n. token_at ts (from + 2 * i) ∷ alternate ts n (count - (i + 1))) next

pub alternate_none : (ts : List Token) (from i count : ℕ) → count ≤ i → alternate ts from (count - i) ≡ []
alternate_none ts from i count h = let none : count - i ≡ 0 = omega arith in ap (alternate ts from) none

pub length_alternate : (ts : List Token) (from count : ℕ) → length (alternate ts from count) ≡ count
length_alternate ts from zero = refl
length_alternate ts from (suc count) = ap suc (length_alternate ts (from + 2) count)

-- every second token, by its number
pub alternate_at : (ts : List Token) (from count i : ℕ) → i < count → get_or (alternate ts from count) i (end_token 0) ≡ token_at ts (from + 2 * i)
alternate_at ts from zero i h = absurd (omega arith)
alternate_at ts from (suc count) zero h = let same : from ≡ from + 2 * 0 = omega arith in ap (token_at ts) same
alternate_at ts from (suc count) (suc i) h =
    let same : from + 2 + 2 * i ≡ from + 2 * suc i = omega arith in
    alternate_at ts (from + 2) count i (omega arith) ∙ ap (token_at ts) same

-- the tokens from one on: those before the last, and the end token
pub range_end : (ts : List Token) → AreTokens ts → (from last : ℕ) → last + 1 ≡ length ts → from ≤ last → drop from ts ≡ slice_range ts from last ++ end_token (token_at ts last).offset ∷ []
range_end ts are from last e h =
    let far : length ts - from ≡ last + 1 - from = omega arith in
    let end : token_at ts last ≡ end_token (token_at ts last).offset = last_token ts are last e ∙ ap (λ (t : Token). end_token t.offset) (sym (last_token ts are last e)) in
    sym (take_rest ts from)
    ∙ ap (λ n. take n (drop from ts)) far
    ∙ range_push ts from last h (omega arith)
    ∙ ap (λ t. slice_range ts from last ++ t ∷ []) end
