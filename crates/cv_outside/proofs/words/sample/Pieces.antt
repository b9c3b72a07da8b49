-- Texts, piece by piece.
use Rattle.std.proofs.Common.{◌≡◌, ℕ, suc, ◌+◌, ◌<◌, ◌≤◌, List, ◌++◌, length, take, get_or, append_assoc, append-nil, ap, sym, ◌∙◌, arith, codes}
use Rattle.std.proofs.lemmas.List.{flat_map_more, take_all, take_more}
use Rattle.std.specs.List.{flat_map}
use Rattle.cv_outside.specs.words.sample.Samples.{barred, each, line, mark_of, numbered, pair}

abbrev Text : Type 0
Text = List ℕ

pub marked_goes : (n : ℕ) (xs : Text) (k d : ℕ) (start out new : Text) → k < length xs → out ≡ start ++ flat_map (mark_of n) (take k xs) → new ≡ out ++ mark_of n (get_or xs k d) → new ≡ start ++ flat_map (mark_of n) (take (k + 1) xs)
marked_goes n xs k d start out new l i m =
    m
    ∙ (ap (λ o. o ++ mark_of n (get_or xs k d)) i
    ∙ (flat_map_more (mark_of n) start (take k xs) (get_or xs k d)
    ∙ ap (λ ys. start ++ flat_map (mark_of n) ys) (sym (take_more xs k d l))))

pub marked_end : (n : ℕ) (xs : Text) (k : ℕ) (start out : Text) → length xs ≤ k → out ≡ start ++ flat_map (mark_of n) (take k xs) → out ≡ start ++ numbered xs n
marked_end n xs k start out l i = i ∙ ap (λ ys. start ++ flat_map (mark_of n) ys) (take_all k xs l)

each_put : (t : Text) (k m : ℕ) → m ≡ suc k → each t k ++ numbered t m ≡ each t m
unfolding each
each_put t k m e = ap (λ j. each t k ++ numbered t j) e ∙ sym (ap (each t) e)

pub each_goes : (t : Text) (k : ℕ) (start out new : Text) → out ≡ start ++ each t k → new ≡ out ++ numbered t (k + 1) → new ≡ start ++ each t (k + 1)
each_goes t k start out new i m =
    m ∙ (ap (λ o. o ++ numbered t (k + 1)) i ∙ (append_assoc start (each t k) (numbered t (k + 1)) ∙ ap (λ x. start ++ x) (each_put t k (k + 1) (omega arith))))

pub each_none : (t start : Text) → start ≡ start ++ each t 0
unfolding each
each_none t start = sym (append-nil start)

barred_put : (k m : ℕ) → m ≡ suc k → barred k ++ (numbered pair m ++ line (codes "|")) ≡ barred m
unfolding barred
barred_put k m e = ap (λ j. barred k ++ (numbered pair j ++ line (codes "|"))) e ∙ sym (ap barred e)

pub barred_goes : (k : ℕ) (start out mid new : Text) → out ≡ start ++ barred k → mid ≡ out ++ numbered pair (k + 1) → new ≡ mid ++ line (codes "|") → new ≡ start ++ barred (k + 1)
barred_goes k start out mid new i m n =
    n
    ∙ (ap (λ o. o ++ line (codes "|")) (m ∙ ap (λ o. o ++ numbered pair (k + 1)) i)
    ∙ (append_assoc (start ++ barred k) (numbered pair (k + 1)) (line (codes "|"))
    ∙ (append_assoc start (barred k) (numbered pair (k + 1) ++ line (codes "|"))
    ∙ ap (λ x. start ++ x) (barred_put k (k + 1) (omega arith)))))

pub barred_none : (start : Text) → start ≡ start ++ barred 0
unfolding barred
barred_none start = sym (append-nil start)

-- four pieces and five

pub four : (start a b c d o₁ o₂ o₃ o₄ : Text) → o₁ ≡ start ++ a → o₂ ≡ o₁ ++ b → o₃ ≡ o₂ ++ c → o₄ ≡ o₃ ++ d → o₄ ≡ start ++ (a ++ b ++ c ++ d)
four start a b c d o₁ o₂ o₃ o₄ e f g h =
    h ∙ (ap (λ o. o ++ d) (g ∙ (ap (λ o. o ++ c) (f ∙ (ap (λ o. o ++ b) e ∙ append_assoc start a b)) ∙ append_assoc start (a ++ b) c)) ∙ append_assoc start (a ++ b ++ c) d)

pub five : (start a b c d e o₁ o₂ o₃ o₄ o₅ : Text) → o₁ ≡ start ++ a → o₂ ≡ o₁ ++ b → o₃ ≡ o₂ ++ c → o₄ ≡ o₃ ++ d → o₅ ≡ o₄ ++ e → o₅ ≡ start ++ (a ++ b ++ c ++ d ++ e)
five start a b c d e o₁ o₂ o₃ o₄ o₅ i j k l m =
    m ∙ (ap (λ o. o ++ e) (four start a b c d o₁ o₂ o₃ o₄ i j k l) ∙ append_assoc start (a ++ b ++ c ++ d) e)
