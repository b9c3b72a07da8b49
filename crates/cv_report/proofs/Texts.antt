-- Texts, part by part.
use Rattle.std.proofs.Common.{◌≡◌, ℕ, zero, suc, ◌+◌, ◌<◌, ◌≤◌, List, [], ◌∷◌, ◌++◌, length, drop, get_or, Bool, true, false, cond, is_some, append_assoc, append-nil, refl, ap, sym, ◌∙◌, arith, Result, Ok, Err}
use Rattle.std.proofs.lemmas.List.{drop_all}
use Rattle.std.specs.Result.{OnOk, is_ok}
use Rattle.cv_report.specs.declared.report.Verdict.{Verdict}
use Rattle.cv_report.specs.Text.{verdict_text, verdicts_text}
use Rattle.cv_syntax_trees.proofs.lists.Numbers.{suc_is_plus_one}

pub extended : {T E : Type 0} (r : Result T E) (old more new total : List ℕ) → new ≡ cond (is_ok r) (old ++ more) old → old ++ more ≡ total → OnOk r (new ≡ total)
extended (Ok u) old more new total i e = i ∙ e
extended (Err u) old more new total i e = tt

verdicts_more : (names : List (List ℕ)) (n : ℕ) (xs : List Verdict) (k : ℕ) (d : Verdict) → k < length xs → verdicts_text names n (drop k xs) ≡ verdict_text names n (get_or xs k d) ++ verdicts_text names (n + 1) (drop (suc k) xs)
unfolding verdicts_text
verdicts_more names n [] k d l = absurd (omega arith)
verdicts_more names n (x ∷ xs) zero d l = refl
verdicts_more names n (x ∷ xs) (suc k) d l = verdicts_more names n xs k d (omega arith)

pub verdict_goes : (names : List (List ℕ)) (xs : List Verdict) (k : ℕ) (d : Verdict) (out new total : List ℕ) → k < length xs → out ++ verdicts_text names (k + 1) (drop k xs) ≡ total → new ≡ out ++ verdict_text names (k + 1) (get_or xs k d) → new ++ verdicts_text names (k + 1 + 1) (drop (k + 1) xs) ≡ total
verdict_goes names xs k d out new total l h n =
    ap (λ o. o ++ verdicts_text names (k + 1 + 1) (drop (k + 1) xs)) n
    ∙ (append_assoc out (verdict_text names (k + 1) (get_or xs k d)) (verdicts_text names (k + 1 + 1) (drop (k + 1) xs))
    ∙ (sym (ap (λ t. out ++ t) (verdicts_more names (k + 1) xs k d l ∙ ap (λ m. verdict_text names (k + 1) (get_or xs k d) ++ verdicts_text names (k + 1 + 1) (drop m xs)) (suc_is_plus_one k))) ∙ h))

pub verdicts_end : (names : List (List ℕ)) (xs : List Verdict) (k n : ℕ) (out total : List ℕ) → length xs ≤ k → out ++ verdicts_text names n (drop k xs) ≡ total → out ≡ total
unfolding verdicts_text
verdicts_end names xs k n out total l h = sym (append-nil out) ∙ (sym (ap (λ t. out ++ verdicts_text names n t) (drop_all k xs l)) ∙ h)

pub ruleset texts = (append_assoc)
