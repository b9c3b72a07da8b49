-- The copy that a call takes, and the other ones, where each two are related.
use Rattle.std.proofs.Common.{◌≡◌, ℕ, Bool, true, false, cond, List, [], ◌∷◌, Option, Some, None, refl, subst}
use Rattle.std.specs.List.{AllByRecursion}
use Rattle.cv_meaning.specs.Interpretation.{Setting}
use Rattle.cv_meaning.specs.Binders.{fits}
use Rattle.cv_meaning.specs.Inputs.{Input, message_binders}
use Rattle.cv_meaning.specs.Runs.{Taken, taken, behind, is_at, admitted, if_fitting}
use Rattle.cv_meaning_laws.proofs.Moves.{TakenEach, taken_each}
use Rattle.cv_scope_rules.specs.Branches.{Pairs}

-- of each two, at a symmetric relation
pub record TakenPairs (R : Input → Input → Type 0) (k : Taken) : Type 0 where
  pub pair : AllByRecursion (R k.input) k.others
  pub rest : Pairs R k.others

pub taken_pairs : (R : Input → Input → Type 0) → ((i j : Input) → R i j → R j i) → (c : ℕ) (u : List ℕ) (is : List Input) → Pairs R is → (k : Taken) → taken c u is ≡ Some k → TakenPairs R k
unfolding taken
taken_pairs R s c u [] h k e = cc
taken_pairs R s c u (i ∷ is) h k e = go (is_at c u i) (taken c u is) (taken_pairs R s c u is h.1) (taken_each (R i) c u is h.0) e
  where
    go : (b : Bool) (o : Option Taken) → ((k : Taken) → o ≡ Some k → TakenPairs R k) → ((k : Taken) → o ≡ Some k → TakenEach (R i) k) → cond b (Some (record { input = i; others = is })) (behind i o) ≡ Some k → TakenPairs R k
    go true o x y e = let q : record { input = i; others = is } ≡ k = cc in subst (TakenPairs R) q (record { pair = h.0; rest = h.1 })
    go false None x y e = cc
    go false (Some r) x y e =
        let q : record r { others = i ∷ r.others } ≡ k = cc in
        let a = x r refl in
        let b = y r refl in
        subst (TakenPairs R) q (record { pair = (s i r.input b.input, a.pair); rest = (b.others, a.rest) })
