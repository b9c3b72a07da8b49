-- What a call takes, and what the moves of a run keep.
use Rattle.std.proofs.Common.{◌≡◌, ℕ, zero, suc, Bool, true, false, cond, List, [], ◌∷◌, Option, Some, None, refl, subst}
use Rattle.std.specs.List.{AllByRecursion}
use Rattle.cv_meaning.specs.Tapes.{Tape}
use Rattle.cv_meaning.specs.Interpretation.{Setting}
use Rattle.cv_meaning.specs.Binders.{fits}
use Rattle.cv_meaning.specs.Inputs.{Input, message_binders}
use Rattle.cv_meaning.specs.Runs.{Mode, Move, Answer, State, Taken, taken, behind, is_at, moved, run_from, admitted, if_fitting, next_move, by_move}

pub record TakenEach (P : Input → Type 0) (k : Taken) : Type 0 where
  pub input : P k.input
  pub others : AllByRecursion P k.others

pub taken_each : (P : Input → Type 0) (c : ℕ) (u : List ℕ) (is : List Input) → AllByRecursion P is → (k : Taken) → taken c u is ≡ Some k → TakenEach P k
unfolding taken
taken_each P c u [] h k e = cc
taken_each P c u (i ∷ is) h k e = go (is_at c u i) (taken c u is) (taken_each P c u is h.1) e
  where
    go : (b : Bool) (o : Option Taken) → ((k : Taken) → o ≡ Some k → TakenEach P k) → cond b (Some (record { input = i; others = is })) (behind i o) ≡ Some k → TakenEach P k
    go true o ih e = let q : record { input = i; others = is } ≡ k = cc in subst (TakenEach P) q (record { input = h.0; others = h.1 })
    go false None ih e = cc
    go false (Some r) ih e = let q : record r { others = i ∷ r.others } ≡ k = cc in subst (TakenEach P) q (record { input = (ih r refl).input; others = (h.0, (ih r refl).others) })

pub admitted_each : (P : Input → Type 0) (g : Setting) (c : ℕ) (u vs : List ℕ) (is : List Input) → AllByRecursion P is → (k : Taken) → admitted g c u vs is ≡ Some k → TakenEach P k
admitted_each P g c u vs is h k e = go (taken c u is) (taken_each P c u is h) e
  where
    fitting : (b : Bool) (r : Taken) → TakenEach P r → cond b (Some r) None ≡ Some k → TakenEach P k
    fitting true r x q = let z : r ≡ k = cc in subst (TakenEach P) z x
    fitting false r x q = cc

    go : (o : Option Taken) → ((k : Taken) → o ≡ Some k → TakenEach P k) → if_fitting g vs o ≡ Some k → TakenEach P k
    go None x q = cc
    go (Some r) x q = fitting (fits g.interpretation.type_size (message_binders r.input) vs) r (x r refl) q

-- what each move keeps, a run keeps
pub run_keeps : (P : State → Type 0) (g : Setting) (m : Mode) (next : List Answer → Option Move) (t : Tape) → ((st : State) (a : Move) → P st → P (moved g m t st a)) → (n : ℕ) (st : State) → P st → P (run_from g m next t n st)
unfolding run_from
run_keeps P g m next t h zero st p = p
run_keeps P g m next t h (suc n) st p = go (next_move next st) (λ a. run_keeps P g m next t h n (moved g m t st a) (h st a p))
  where
    go : (o : Option Move) → ((a : Move) → P (run_from g m next t n (moved g m t st a))) → P (by_move st (λ a. run_from g m next t n (moved g m t st a)) o)
    go None ih = p
    go (Some a) ih = ih a
