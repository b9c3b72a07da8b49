-- The value of a row of digits, digit by digit.
use Rattle.std.proofs.Common.{◌≡◌, ℕ, ◌+◌, ◌*◌, ◌-◌, ◌<◌, ◌≤◌, List, [], ◌∷◌, length, take, drop, get_or, fold, sym, ap, ◌∙◌, arith}
use Rattle.std.proofs.lemmas.List.{take-append-drop}
use Rattle.std.proofs.lemmas.List.Sums.{fold-append, fold_more}
use Rattle.cv_lex.specs.Lexis.{value_of}

-- one more digit
abbrev step : ℕ → ℕ → ℕ
step value b = value * 10 + (b - 48)

grows : (value : ℕ) (bs : List ℕ) → value ≤ fold step value bs
grows value [] = omega arith
grows value (b ∷ bs) = omega (arith, grows (step value b) bs)

pub value_of_more : (bs : List ℕ) (i : ℕ) → i < length bs → value_of (take (i + 1) bs) ≡ value_of (take i bs) * 10 + (get_or bs i 0 - 48)
value_of_more bs i h = fold_more step 0 bs i 0 h

pub value_of_take_le : (bs : List ℕ) (i : ℕ) → value_of (take i bs) ≤ value_of bs
value_of_take_le bs i =
    let e : value_of bs ≡ fold step (value_of (take i bs)) (drop i bs) = ap value_of (sym (take-append-drop i bs)) ∙ fold-append step 0 (take i bs) (drop i bs) in
    omega (arith, e, grows (value_of (take i bs)) (drop i bs))
