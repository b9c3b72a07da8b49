-- A visit of a construct at a copy is the first one of that construct at that copy.
use Rattle.std.proofs.Common.{◌≡◌, ℕ, ◌==◌, ◌&&◌, Bool, true, false, cond, List, [], ◌∷◌, ◌++◌, Option, Some, None, refl, ap, ap₂, subst, ◌∙◌, eq-eqb}
use Rattle.std.proofs.lemmas.Bool.{both_ways}
use Rattle.std.specs.List.{AllByRecursion, IsDistinct}
use Rattle.cv_meaning.specs.Memory.{tuple}
use Rattle.cv_meaning.specs.Serving.{Visit}
use Rattle.cv_meaning.specs.Tapes.{same_tuple}
use Rattle.cv_meaning_laws.proofs.Counts.{same_tuple_refl}
use Rattle.cv_meaning_runs.specs.Simulation.{InOrder}
use Rattle.cv_meaning_runs.specs.Spots.{Spot, has_place, same_spot, spots_of_visits}
use Rattle.cv_costs.specs.quiet.Twins.{AreVisitsRelated}
use Rattle.cv_rule_fresh.proofs.Hits.{first_that}

abbrev pub is_at : (place : ℕ) → (copy : List ℕ) → Visit → Bool
is_at q w v = has_place v.tree && ((v.place == q) && same_tuple (tuple v.before.indices) w)

abbrev pub IsFirstAt : List Visit → Visit → Type 0
IsFirstAt vs v = has_place v.tree ≡ true → first_that (is_at v.place (tuple v.before.indices)) vs ≡ Some v

abbrev spot_here : Visit → Spot
spot_here v = record { place = v.place; tuple = tuple v.before.indices }

apart_spots : (s : Spot) (vs : List Visit) → AllByRecursion (λ r. same_spot s r ≡ false) (spots_of_visits vs) → AllByRecursion (λ v. has_place v.tree ≡ true → same_spot s (spot_here v) ≡ false) vs
apart_spots s [] h = tt
apart_spots s (v ∷ vs) h = go (has_place v.tree) refl h (apart_spots s vs)
  where
    go : (b : Bool) → has_place v.tree ≡ b → AllByRecursion (λ r. same_spot s r ≡ false) (cond b (spot_here v ∷ []) [] ++ spots_of_visits vs)
        → (AllByRecursion (λ r. same_spot s r ≡ false) (spots_of_visits vs) → AllByRecursion (λ v. has_place v.tree ≡ true → same_spot s (spot_here v) ≡ false) vs)
        → AllByRecursion (λ v. has_place v.tree ≡ true → same_spot s (spot_here v) ≡ false) (v ∷ vs)
    go true e k ih = (λ i. k.0, ih k.1)
    go false e k ih = (λ i. absurd (both_ways (has_place v.tree) e i), ih k)

later_firsts : (v : Visit) (vs us : List Visit) → (has_place v.tree ≡ true → AllByRecursion (λ u. has_place u.tree ≡ true → same_spot (spot_here v) (spot_here u) ≡ false) us) → AllByRecursion (IsFirstAt vs) us → AllByRecursion (IsFirstAt (v ∷ vs)) us
later_firsts v vs [] k h = tt
later_firsts v vs (u ∷ us) k h = (λ e. go (has_place v.tree) refl e, later_firsts v vs us (λ e. (k e).1) h.1)
  where
    go : (b : Bool) → has_place v.tree ≡ b → has_place u.tree ≡ true → cond (is_at u.place (tuple u.before.indices) v) (Some v) (first_that (is_at u.place (tuple u.before.indices)) vs) ≡ Some u
    go true f e = ap₂ (λ b c. cond (b && c) (Some v) (first_that (is_at u.place (tuple u.before.indices)) vs)) f ((k f).0 e) ∙ h.0 e
    go false f e = ap (λ b. cond (b && ((v.place == u.place) && same_tuple (tuple v.before.indices) (tuple u.before.indices))) (Some v) (first_that (is_at u.place (tuple u.before.indices)) vs)) f ∙ h.0 e

pub firsts_at : (vs : List Visit) → IsDistinct same_spot (spots_of_visits vs) → AllByRecursion (IsFirstAt vs) vs
unfolding IsDistinct
firsts_at [] d = tt
firsts_at (v ∷ vs) d = go (has_place v.tree) refl d (firsts_at vs)
  where
    itself : has_place v.tree ≡ true → cond (is_at v.place (tuple v.before.indices) v) (Some v) (first_that (is_at v.place (tuple v.before.indices)) vs) ≡ Some v
    itself e =
        ap₂ (λ b c. cond (b && c) (Some v) (first_that (is_at v.place (tuple v.before.indices)) vs)) e
        (ap₂ ◌&&◌ (eq-eqb v.place v.place refl) (same_tuple_refl (tuple v.before.indices)))

    go : (b : Bool) → has_place v.tree ≡ b → IsDistinct same_spot (cond b (spot_here v ∷ []) [] ++ spots_of_visits vs) → (IsDistinct same_spot (spots_of_visits vs) → AllByRecursion (IsFirstAt vs) vs)
        → AllByRecursion (IsFirstAt (v ∷ vs)) (v ∷ vs)
    go true e k ih = (itself, later_firsts v vs vs (λ f. apart_spots (spot_here v) vs k.0) (ih k.1))
    go false e k ih = (itself, later_firsts v vs vs (λ f. absurd (both_ways (has_place v.tree) e f)) (ih k))

-- in two runs that are visited alike the first visits are alike

abbrev pub AreBoth : (Visit → Visit → Type 0) → Option Visit → Option Visit → Type 0
AreBoth R None None = Unit {0}
AreBoth R (Some v) (Some w) = R v w
AreBoth R _ _ = ⊥

pub firsts_related : (xs : ℕ → Bool) (K : ℕ → List ℕ → Option ℕ → Option ℕ → Type 0) (q : ℕ) (w : List ℕ) (vs us : List Visit) → InOrder (AreVisitsRelated xs K) vs us → AreBoth (AreVisitsRelated xs K) (first_that (is_at q w) vs) (first_that (is_at q w) us)
firsts_related xs K q w [] [] h = tt
firsts_related xs K q w [] (u ∷ us) h = absurd h
firsts_related xs K q w (v ∷ vs) [] h = absurd h
firsts_related xs K q w (v ∷ vs) (u ∷ us) h =
    subst (λ b. AreBoth (AreVisitsRelated xs K) (cond (is_at q w v) (Some v) (first_that (is_at q w) vs)) (cond b (Some u) (first_that (is_at q w) us)))
    (λ j. has_place (h.0.tree j) && ((h.0.place j == q) && same_tuple (tuple (h.0.indices j)) w)) (go (is_at q w v) (firsts_related xs K q w vs us h.1))
  where
    go : (b : Bool) → AreBoth (AreVisitsRelated xs K) (first_that (is_at q w) vs) (first_that (is_at q w) us) → AreBoth (AreVisitsRelated xs K) (cond b (Some v) (first_that (is_at q w) vs)) (cond b (Some u) (first_that (is_at q w) us))
    go true k = h.0
    go false k = k
