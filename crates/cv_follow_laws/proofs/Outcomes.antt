-- What a step comes to in a game whatever names are drawn: a refusal by a condition other than 9, or a limit of its next game. Then it
-- comes to nothing else there.
use Rattle.std.proofs.Common.{◌≡◌, ◌≢◌, ℕ, nat_lt, Bool, true, false, if◌then◌else◌, List, Option, Some, None, refl, ap, sym, ◌∙◌, subst}
use Rattle.cv_syntax.specs.limits.Limits.{most_depth, most_nodes}
use Rattle.cv_syntax.specs.limits.Limits as limits
use Rattle.cv_syntax_trees.specs.Declarations.{Declaration}
use Rattle.cv_syntax_trees.specs.Tree.{Tree, depth, size}
use Rattle.cv_match_laws.specs.answers.Drawn.{draws, finds}
use Rattle.cv_inline.specs.Draws.{drawn_by}
use Rattle.cv_inline_laws.proofs.sizes.Sizes.{one_depth, one_size}
use Rattle.cv_scene.specs.Reductions.{Reduction, context_of_game}
use Rattle.cv_scene.specs.Scenes.{Scene}
use Rattle.cv_script.specs.Views.{StepItems}
use Rattle.cv_script.specs.Views as items
use Rattle.cv_steps_laws.specs.crypto.Conditions.{Failure, equivalence_of, failure_of}
use Rattle.cv_steps_laws.specs.crypto.Steps.{IsNextGame, IsOutcome, IsOutcomeBy, Outcome, is_next, outcome_with, reduction_of}
use Rattle.cv_steps_laws.specs.crypto.Steps as outcome
use Rattle.cv_kernel.specs.Sayings.{Accepted, MaySay, Refused, Saying, TooDeep, TooLarge, saying_by}

-- games that a step may lead to differ in names alone
sizes_same : (r : Reduction) (m n : Tree) → IsNextGame r m → IsNextGame r n → (size m ≡ size n) × (depth m ≡ depth n)
sizes_same r m n w v = (
  ap size w.game ∙ (one_size (context_of_game r) r.key (drawn_by (draws r) w.names (finds r) w.labels) (drawn_by (draws r) v.names (finds r) v.labels) ∙ sym (ap size v.game)),
  ap depth w.game ∙ (one_depth (context_of_game r) r.key (drawn_by (draws r) w.names (finds r) w.labels) (drawn_by (draws r) v.names (finds r) v.labels) ∙ sym (ap depth v.game)),
)

-- of a cryptographic step

abbrev IsFixed : Outcome → Type 0
IsFixed (outcome.Refused condition place) = condition ≢ 9
IsFixed (outcome.Accepted next) = ⊥
IsFixed o = Unit {0}

abbrev by_tests : (large deep : Bool) → (x y : ℕ) → (next : Tree) → Bool → Outcome
by_tests large deep x y next is = if large then outcome.TooLarge x else (if deep then outcome.TooDeep y else (if is then outcome.Accepted next else outcome.Refused 9 0))

same_tests : (a b : Bool) (x y : ℕ) (m n : Tree) (d e : Bool) (o : Outcome) → IsFixed o → o ≡ by_tests a b x y m d → by_tests a b x y n e ≡ o
same_tests true b x y m n d e o h q = sym q
same_tests false true x y m n d e o h q = sym q
same_tests false false x y m n true e o h q = absurd (subst IsFixed q h)
same_tests false false x y m n false e o h q = absurd (subst IsFixed q h refl)

same_game : (ds : List Declaration) (m n : Tree) (o : Outcome) → size m ≡ size n → depth m ≡ depth n → IsFixed o → o ≡ outcome_with ds m → outcome_with ds n ≡ o
same_game ds m n o s t h q =
    let large : Bool = nat_lt most_nodes (size m) in
    let deep : Bool = nat_lt most_depth (depth m) in
    let here : by_tests large deep (limits.told (size m)) (limits.told (depth m)) n (is_next ds n) ≡ o = same_tests large deep (limits.told (size m)) (limits.told (depth m)) m n (is_next ds m) (is_next ds n) o h q in
    (λ i. by_tests (nat_lt most_nodes (sym s i)) (nat_lt most_depth (sym t i)) (limits.told (sym s i)) (limits.told (sym t i)) n (is_next ds n)) ∙ here

one_outcome : (s : Scene) (x : ℕ) (o p : Outcome) (t : Option Tree) (f : Option Failure) → IsFixed o → IsOutcomeBy s t x f o → IsOutcomeBy s t x f p → p ≡ o
one_outcome s x o p (Some t) None h w v =
    let sizes = sizes_same (reduction_of s t x) w.next v.next w.drawn v.drawn in
    v.outcome ∙ same_game s.declarations w.next v.next o sizes.0 sizes.1 h w.outcome
one_outcome s x o p None None h w v = absurd w
one_outcome s x o p t (Some f) h w v = v ∙ sym w

-- of any step

abbrev pub IsFixedSaying : Saying → Type 0
IsFixedSaying (Refused condition place) = condition ≢ 9
IsFixedSaying (Accepted next cost) = ⊥
IsFixedSaying w = Unit {0}

fixed_outcome : (n e : ℕ) (o : Outcome) → IsFixedSaying (saying_by n e o) → IsFixed o
fixed_outcome n e (outcome.Refused c p) h = h
fixed_outcome n e (outcome.TooLarge m) h = tt
fixed_outcome n e (outcome.TooDeep d) h = tt
fixed_outcome n e (outcome.Accepted g) h = h

pub one_saying : (s : Scene) (ks : List ℕ) (n : ℕ) (step : Tree) (w v : Saying) (o : Option StepItems) → IsFixedSaying w → MaySay s ks n step o w → MaySay s ks n step o v → v ≡ w
one_saying s ks n step w v (Some (items.Crypto e x)) h a b =
    let one : b.0 ≡ a.0 = one_outcome s x a.0 b.0 (equivalence_of s e) (failure_of s e x) (fixed_outcome n e a.0 (subst IsFixedSaying a.2 h)) a.1 b.1 in
    b.2 ∙ (ap (saying_by n e) one ∙ sym a.2)
one_saying s ks n step w v o h a b = b ∙ sym a
