-- The verdicts on queries, by which of them are closed.
use Rattle.std.proofs.Common.{◌≡◌, ℕ, suc, Bool, true, false, if◌then◌else◌, List, [], ◌∷◌, length, map, Option, Some, None, is_some, refl, ap, ap₂}
use Rattle.std.specs.List.{list_all}
use Rattle.cv_bound.specs.declared.terms.Term.{Term}
use Rattle.cv_bound.specs.costs.Sums.{no_sums}
use Rattle.cv_bound.specs.declared.costs.sums.Sums.{Sums}
use Rattle.cv_bound.specs.closings.Queries.{is_among}
use Rattle.cv_kernel.specs.Proofs.{Transition, closed_by, sum_from, sum_of}
use Rattle.cv_report.specs.declared.report.Verdict.{Verdict}
use Rattle.cv_syntax_trees.specs.Tree.{Tree}
use Rattle.cv_report.specs.verdicts.Verdicts.{verdict_by, verdicts_by}
use Rattle.cv_follow.specs.Scripts.{first_open, is_proved}
use Rattle.cv_kernel.proofs.Closings.{among_same}

pub verdicts_same : {Q : Type 0} (f g : ℕ → Option (List Term)) (k : ℕ) (qs : List Q) → ((n : ℕ) → f n ≡ g n) → verdicts_by f k qs ≡ verdicts_by g k qs
verdicts_same f g k [] e = refl
verdicts_same f g k (q ∷ qs) e = ap₂ (λ v vs. verdict_by v ∷ vs) (e k) (verdicts_same f g (suc k) qs e)

pub verdicts_map : {P Q : Type 0} (h : P → Q) (f : ℕ → Option (List Term)) (k : ℕ) (qs : List P) → verdicts_by f k (map h qs) ≡ verdicts_by f k qs
verdicts_map h f k [] = refl
verdicts_map h f k (q ∷ qs) = ap (λ vs. verdict_by (f k) ∷ vs) (verdicts_map h f (suc k) qs)

pub verdicts_length : {Q : Type 0} (f : ℕ → Option (List Term)) (k : ℕ) (qs : List Q) → length (verdicts_by f k qs) ≡ length qs
verdicts_length f k [] = refl
verdicts_length f k (q ∷ qs) = ap suc (verdicts_length f (suc k) qs)

-- where no query is open, each verdict is `Proved`

proved_by : (o : Option (List Term)) (b : Bool) (k : ℕ) (later : Option ℕ) (vs : List Verdict) → b ≡ is_some o → (if b then later else Some k) ≡ None → (later ≡ None → list_all is_proved vs ≡ true) → list_all is_proved (verdict_by o ∷ vs) ≡ true
proved_by None true k later vs e h f = absurd (cc)
proved_by None false k later vs e h f = absurd (cc)
proved_by (Some s) true k later vs e h f = f h
proved_by (Some s) false k later vs e h f = absurd (cc)

all_proved_from : (sums : Sums) (ts : List Transition) (k : ℕ) (qs : List Tree) → first_open (closed_by ts) k qs ≡ None → list_all is_proved (verdicts_by (sum_from sums ts) k qs) ≡ true
all_proved_from sums ts k [] e = refl
all_proved_from sums ts k (q ∷ qs) e = proved_by (sum_from sums ts k) (is_among (closed_by ts) k) k (first_open (closed_by ts) (suc k) qs) (verdicts_by (sum_from sums ts) (suc k) qs) (among_same sums ts k) e (all_proved_from sums ts (suc k) qs)

pub all_proved_law : (ts : List Transition) (qs : List Tree) → first_open (closed_by ts) 1 qs ≡ None → list_all is_proved (verdicts_by (sum_of ts) 1 qs) ≡ true
all_proved_law ts qs e = all_proved_from no_sums ts 1 qs e
