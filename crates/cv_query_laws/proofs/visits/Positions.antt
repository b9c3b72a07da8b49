-- Positions of events are those of the visits that execute them, and no node is visited twice at one copy.
use Rattle.std.proofs.Common.{◌≡◌, ℕ, zero, suc, Bool, true, false, cond, ◌&&◌, List, [], ◌∷◌, ◌++◌, Option, Some, refl, sym, ap, ap₂, subst, ◌∙◌, eq-eqb}
use Rattle.std.specs.Prelude.{slice_get}
use Rattle.std.proofs.lemmas.Bool.{both_ways}
use Rattle.std.specs.List.{AllByRecursion, IsDistinct}
use Rattle.cv_syntax_trees.specs.declared.head.Head.TheVariants.{Event}
use Rattle.cv_syntax_trees.specs.Tree.{Tree, Node}
use Rattle.cv_meaning.specs.Tapes.{Tape, same_tuple}
use Rattle.cv_meaning.specs.Interpretation.{Setting}
use Rattle.cv_meaning.specs.Memory.{Happened, Local, tuple}
use Rattle.cv_meaning.specs.Runs.{Adversary, Mode, start}
use Rattle.cv_meaning.specs.Serving.{Visit}
use Rattle.cv_meaning.specs.Terms.{values_here}
use Rattle.cv_meaning.specs.Experiments.{coins_on, run, visits_of_run}
use Rattle.cv_meaning_laws.proofs.Counts.{same_tuple_refl}
use Rattle.cv_meaning_laws.specs.adequacy.Broken.{StandsAt}
use Rattle.cv_meaning_runs.specs.Spots.{Spot, has_place, same_spot, spots_of_inputs, spots_of_visit, spots_of_visits}
use Rattle.cv_meaning_runs.proofs.Lists.{distinct_left, distinct_right}
use Rattle.cv_meaning_runs.proofs.Spots.{spots_distinct}
use Rattle.cv_syntax_trees.proofs.lists.Each.{AllByRecursion_append, AllByRecursion_left, AllByRecursion_right, AllByRecursion_weaker}
use Rattle.cv_syntax_trees.proofs.lists.Options.{none_some, some_injective}
use Rattle.cv_query_laws.specs.correspondences.Happenings.{happening, happening_at, happenings}
use Rattle.cv_query_laws.specs.visits.Events.{event_visits, is_event}
use Rattle.cv_query_laws.proofs.correspondences.Happening.{run_happens}

-- each item stands at a position
pub all_stand : {A : Type 0} (xs : List A) → AllByRecursion (λ x. (n : ℕ) × StandsAt xs n x) xs
all_stand [] = tt
all_stand (x ∷ xs) = ((0, refl), AllByRecursion_weaker (λ y. (n : ℕ) × StandsAt xs n y) (λ y. (n : ℕ) × StandsAt (x ∷ xs) n y) (λ y z. (suc z.0, z.1)) xs (all_stand xs))

-- events

abbrev pub Executes : Setting → Visit → Happened → Type 0
Executes g v e = happening_at g v ≡ e ∷ []

first_happened : (d e : Happened) → ◌≡◌ {A = Option Happened} (Some d) (Some e) → d ∷ [] ≡ e ∷ []
first_happened d e k = ap (λ (x : Happened). x ∷ []) (some_injective k)

pub event_at : (g : Setting) (vs : List Visit) (n : ℕ) (e : Happened) → StandsAt (happenings g vs) n e → (v : Visit) × StandsAt (event_visits vs) n v × Executes g v e
event_at g [] n e k = absurd (none_some e k)
event_at g (v ∷ vs) n e k = go v.tree v.place v.before n k (event_at g vs)
  where
    go : (t : Tree) (p : ℕ) (s : Local) (n : ℕ) → StandsAt (happening g t s ++ happenings g vs) n e → ((n : ℕ) (e : Happened) → StandsAt (happenings g vs) n e → (v : Visit) × StandsAt (event_visits vs) n v × Executes g v e)
        → (w : Visit) × StandsAt (event_visits (record { place = p; tree = t; before = s } ∷ vs)) n w × Executes g w e
    go (Node (Event f) a b) p s zero k ih = (record { place = p; tree = Node (Event f) a b; before = s }, refl, first_happened _ e k)
    go (Node (Event f) a b) p s (suc n) k ih = ih n e k
    go t p s n k ih = ih n e k

pub executed_at : (g : Setting) (vs : List Visit) (n : ℕ) (v : Visit) → StandsAt (event_visits vs) n v → (e : Happened) × StandsAt (happenings g vs) n e × Executes g v e
executed_at g [] n v k = absurd (none_some v k)
executed_at g (w ∷ vs) n v k = go w.tree w.place w.before n k (executed_at g vs)
  where
    go : (t : Tree) (p : ℕ) (s : Local) (n : ℕ) → StandsAt (event_visits (record { place = p; tree = t; before = s } ∷ vs)) n v → ((n : ℕ) (v : Visit) → StandsAt (event_visits vs) n v → (e : Happened) × StandsAt (happenings g vs) n e × Executes g v e)
        → (e : Happened) × StandsAt (happening g t s ++ happenings g vs) n e × Executes g v e
    go (Node (Event f) a b) p s zero k ih =
        (record { event = f; values = values_here g s a }, refl, ap (happening_at g) (sym (some_injective k)))
    go (Node (Event f) a b) p s (suc n) k ih = ih n v k
    go t p s n k ih = ih n v k

-- a visit of an event's node is one of these
pub event_stands : (vs : List Visit) (n : ℕ) (v : Visit) → StandsAt vs n v → is_event v.tree ≡ true → (i : ℕ) × StandsAt (event_visits vs) i v
event_stands [] n v k e = absurd (none_some v k)
event_stands (w ∷ vs) zero v k e =
    let same : w ≡ v = some_injective k in
    (0, ap (λ b. slice_get (cond b (w ∷ event_visits vs) (event_visits vs)) 0) (ap (λ (x : Visit). is_event x.tree) same ∙ e) ∙ k)
event_stands (w ∷ vs) (suc n) v k e = go (is_event w.tree) (event_stands vs n v k e)
  where
    go : (b : Bool) → (i : ℕ) × StandsAt (event_visits vs) i v → (i : ℕ) × StandsAt (cond b (w ∷ event_visits vs) (event_visits vs)) i v
    go true z = (suc z.0, z.1)
    go false z = z

-- and it is a visit of the run
pub visit_stands : (vs : List Visit) (i : ℕ) (v : Visit) → StandsAt (event_visits vs) i v → (n : ℕ) × StandsAt vs n v
visit_stands [] i v k = absurd (none_some v k)
visit_stands (w ∷ vs) i v k = go (is_event w.tree) i k (λ j. visit_stands vs j v)
  where
    later : (n : ℕ) × StandsAt vs n v → (n : ℕ) × StandsAt (w ∷ vs) n v
    later z = (suc z.0, z.1)

    go : (b : Bool) (i : ℕ) → StandsAt (cond b (w ∷ event_visits vs) (event_visits vs)) i v → ((j : ℕ) → StandsAt (event_visits vs) j v → (n : ℕ) × StandsAt vs n v) → (n : ℕ) × StandsAt (w ∷ vs) n v
    go true zero k ih = (0, k)
    go true (suc i) k ih = later (ih i k)
    go false i k ih = later (ih i k)

-- one visit at a copy

abbrev spot_of : Visit → Spot
spot_of v = record { place = v.place; tuple = tuple v.before.indices }

one_spot : (v w : Visit) → v.place ≡ w.place → tuple v.before.indices ≡ tuple w.before.indices → same_spot (spot_of v) (spot_of w) ≡ true
one_spot v w e f = ap₂ ◌&&◌ (eq-eqb v.place w.place e) (ap (same_tuple (tuple v.before.indices)) (sym f) ∙ same_tuple_refl (tuple v.before.indices))

module _ (P : Spot → Type 0) where
  spot_here : (v : Visit) (vs : List Visit) → has_place v.tree ≡ true → AllByRecursion P (spots_of_visits (v ∷ vs)) → P (spot_of v)
  spot_here v vs e h = (subst (λ b. AllByRecursion P (cond b (spot_of v ∷ []) [] ++ spots_of_visits vs)) e h).0

  spot_at : (vs : List Visit) (n : ℕ) (v : Visit) → StandsAt vs n v → has_place v.tree ≡ true → AllByRecursion P (spots_of_visits vs) → P (spot_of v)
  spot_at [] n v k e h = absurd (none_some v k)
  spot_at (w ∷ vs) zero v k e h = let same : w ≡ v = some_injective k in subst (λ (x : Visit). P (spot_of x)) same (spot_here w vs (ap (λ (x : Visit). has_place x.tree) same ∙ e) h)
  spot_at (w ∷ vs) (suc n) v k e h = spot_at vs n v k e (AllByRecursion_right P (spots_of_visit w) (spots_of_visits vs) h)

  spots_of_events : (vs : List Visit) → AllByRecursion P (spots_of_visits vs) → AllByRecursion P (spots_of_visits (event_visits vs))
  spots_of_events [] h = tt
  spots_of_events (v ∷ vs) h = go (is_event v.tree) (spots_of_events vs (AllByRecursion_right P (spots_of_visit v) (spots_of_visits vs) h))
    where
      go : (b : Bool) → AllByRecursion P (spots_of_visits (event_visits vs)) → AllByRecursion P (spots_of_visits (cond b (v ∷ event_visits vs) (event_visits vs)))
      go true k = AllByRecursion_append P (spots_of_visit v) (spots_of_visits (event_visits vs)) (AllByRecursion_left P (spots_of_visit v) (spots_of_visits vs) h) k
      go false k = k

apart_later : (v : Visit) (vs : List Visit) → has_place v.tree ≡ true → IsDistinct same_spot (spots_of_visits (v ∷ vs)) → AllByRecursion (λ s. same_spot (spot_of v) s ≡ false) (spots_of_visits vs)
unfolding IsDistinct
apart_later v vs e h = (subst (λ b. IsDistinct same_spot (cond b (spot_of v ∷ []) [] ++ spots_of_visits vs)) e h).0

pub one_position : (vs : List Visit) → IsDistinct same_spot (spots_of_visits vs) → (i j : ℕ) (v w : Visit) → StandsAt vs i v → StandsAt vs j w → has_place v.tree ≡ true → has_place w.tree ≡ true → v.place ≡ w.place → tuple v.before.indices ≡ tuple w.before.indices → i ≡ j
one_position [] h i j v w k l e f p q = absurd (none_some v k)
one_position (x ∷ vs) h zero zero v w k l e f p q = refl
one_position (x ∷ vs) h zero (suc j) v w k l e f p q =
    let same : x ≡ v = some_injective k in
    let z = spot_at (λ s. same_spot (spot_of x) s ≡ false) vs j w l f (apart_later x vs (ap (λ (y : Visit). has_place y.tree) same ∙ e) h) in
    absurd (both_ways _ z (one_spot x w (ap (λ (y : Visit). y.place) same ∙ p) (ap (λ (y : Visit). tuple y.before.indices) same ∙ q)))
one_position (x ∷ vs) h (suc i) zero v w k l e f p q =
    let same : x ≡ w = some_injective l in
    let z = spot_at (λ s. same_spot (spot_of x) s ≡ false) vs i v k e (apart_later x vs (ap (λ (y : Visit). has_place y.tree) same ∙ f) h) in
    absurd (both_ways _ z (one_spot x v (ap (λ (y : Visit). y.place) same ∙ sym p) (ap (λ (y : Visit). tuple y.before.indices) same ∙ sym q)))
one_position (x ∷ vs) h (suc i) (suc j) v w k l e f p q = ap suc (one_position vs (distinct_right same_spot (spots_of_visit x) (spots_of_visits vs) h) i j v w k l e f p q)

events_distinct : (vs : List Visit) → IsDistinct same_spot (spots_of_visits vs) → IsDistinct same_spot (spots_of_visits (event_visits vs))
unfolding IsDistinct
events_distinct [] h = tt
events_distinct (v ∷ vs) h = go (is_event v.tree) (events_distinct vs (distinct_right same_spot (spots_of_visit v) (spots_of_visits vs) h))
  where
    kept : IsDistinct same_spot (spots_of_visits (event_visits vs)) → (b : Bool) → IsDistinct same_spot (cond b (spot_of v ∷ []) [] ++ spots_of_visits vs) → IsDistinct same_spot (cond b (spot_of v ∷ []) [] ++ spots_of_visits (event_visits vs))
    kept k true d = (spots_of_events (λ s. same_spot (spot_of v) s ≡ false) vs d.0, k)
    kept k false d = k

    go : (b : Bool) → IsDistinct same_spot (spots_of_visits (event_visits vs)) → IsDistinct same_spot (spots_of_visits (cond b (v ∷ event_visits vs) (event_visits vs)))
    go true k = kept k (has_place v.tree) h
    go false k = k

event_places : (vs : List Visit) (n : ℕ) (v : Visit) → StandsAt (event_visits vs) n v → has_place v.tree ≡ true
event_places [] n v k = absurd (none_some v k)
event_places (w ∷ vs) n v k = go w.tree w.place w.before n k (λ m. event_places vs m v)
  where
    go : (t : Tree) (p : ℕ) (s : Local) (n : ℕ) → StandsAt (event_visits (record { place = p; tree = t; before = s } ∷ vs)) n v → ((m : ℕ) → StandsAt (event_visits vs) m v → has_place v.tree ≡ true) → has_place v.tree ≡ true
    go (Node (Event f) a b) p s zero k ih = ap (λ (x : Visit). has_place x.tree) (sym (some_injective k))
    go (Node (Event f) a b) p s (suc n) k ih = ih n k
    go t p s n k ih = ih n k

module _ (g : Setting) (m : Mode) (a : Adversary) (game : Tree) (t : Tape) where
  abbrev vs : List Visit
  vs = visits_of_run g m a game t

  pub apart : IsDistinct same_spot (spots_of_visits vs)
  apart = distinct_left same_spot (spots_of_visits vs) (spots_of_inputs (run g m a game t).inputs) (spots_distinct g m a game t)

  pub run_events : (run g m a game t).memory.events ≡ happenings g vs
  unfolding run visits_of_run
  run_events = run_happens g m (a.next (coins_on t 0 a.coins)) t a.moves (start g game)

  pub event_position : (i j : ℕ) (v w : Visit) → StandsAt (event_visits vs) i v → StandsAt (event_visits vs) j w → v.place ≡ w.place → tuple v.before.indices ≡ tuple w.before.indices → i ≡ j
  event_position i j v w k l p q = one_position (event_visits vs) (events_distinct vs apart) i j v w k l (event_places vs i v k) (event_places vs j w l) p q
