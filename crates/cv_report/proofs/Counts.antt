-- Counts of verdicts, one by one.
use Rattle.std.proofs.Common.{◌≡◌, ℕ, zero, suc, ◌+◌, ◌<◌, ◌≤◌, List, [], ◌∷◌, length, drop, get_or, ap, refl, sym, ◌∙◌, arith}
use Rattle.std.proofs.lemmas.List.{drop_all}
use Rattle.cv_syntax_trees.proofs.lists.Numbers.{suc_is_plus_one}
use Rattle.cv_report.specs.declared.report.Verdict.{Verdict}
use Rattle.cv_report.specs.Printed.{counted, counted_with}

counted_more : (c : ℕ × ℕ) (vs : List Verdict) (k : ℕ) (d : Verdict) → k < length vs → counted c (drop k vs) ≡ counted (counted_with c (get_or vs k d)) (drop (suc k) vs)
unfolding counted
counted_more c [] k d l = absurd (omega arith)
counted_more c (v ∷ vs) zero d l = refl
counted_more c (v ∷ vs) (suc k) d l = counted_more c vs k d (omega arith)

pub counted_goes : (c new total : ℕ × ℕ) (vs : List Verdict) (k : ℕ) (d : Verdict) → k < length vs → counted c (drop k vs) ≡ total → new ≡ counted_with c (get_or vs k d) → counted new (drop (k + 1) vs) ≡ total
counted_goes c new total vs k d l h n =
    ap (λ x. counted x (drop (k + 1) vs)) n
    ∙ (sym (counted_more c vs k d l ∙ ap (λ m. counted (counted_with c (get_or vs k d)) (drop m vs)) (suc_is_plus_one k)) ∙ h)

pub counted_end : (c total : ℕ × ℕ) (vs : List Verdict) (k : ℕ) → length vs ≤ k → counted c (drop k vs) ≡ total → c ≡ total
unfolding counted
counted_end c total vs k l h = sym (ap (counted c) (drop_all k vs l)) ∙ h
