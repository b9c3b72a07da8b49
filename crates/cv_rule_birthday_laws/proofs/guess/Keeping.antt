-- The chances of an experiment differ by no more than the copies of the guesses in the size of the type.
use Rattle.std.proofs.Common.{◌≡◌, ℕ, zero, suc, ◌+◌, ◌*◌, ◌==◌, ◌&&◌, Bool, true, false, List, [], ◌∷◌, flat_map, length, map, inl, inr, Option, Some, None, is_some, option_map, refl, sym, ap, subst, ◌∙◌, ◌≤◌, ◌<◌, arith, eq-eqb, le_trans, mul-le-mul_right}
use Rattle.std.proofs.lemmas.Bool.{or_left, or_parts}
use Rattle.std.proofs.lemmas.List.Elements.{All-from_recursion}
use Rattle.std.proofs.lemmas.List.Sums.{sum_by-cons}
use Rattle.std.specs.Prelude.{sum_by}
use Rattle.std.specs.List.{AllByRecursion, list_any}
use Rattle.cv_syntax.specs.Layouts.{IsSyntax}
use Rattle.cv_syntax_trees.specs.declared.class.Class.TheVariants as class
use Rattle.cv_syntax_trees.specs.Declarations.{Declaration, Named}
use Rattle.cv_syntax_trees.specs.Head.{weight}
use Rattle.cv_syntax_trees.specs.Tree.{Tree, Empty, Node}
use Rattle.cv_meaning.specs.Advantage.{IsAsked, chance_of}
use Rattle.cv_meaning.specs.Cells.{cells}
use Rattle.cv_meaning.specs.Chances.{AtMost, Chance, chance, distance}
use Rattle.cv_meaning.specs.Experiments.{Experiment, coins_on, holds_on, mode_of, run, visits_of_run}
use Rattle.cv_meaning.specs.Interpretation.{Interpretation, Setting, setting_of}
use Rattle.cv_meaning.specs.Memory.{tuple}
use Rattle.cv_meaning.specs.Queries.{queries_in}
use Rattle.cv_meaning.specs.Runs.{Adversary, Events, Mode, Random, Real}
use Rattle.cv_meaning.specs.Serving.{Visit}
use Rattle.cv_meaning.specs.Tapes.{Cell, New_at, Tape, same_cell, total}
use Rattle.cv_meaning.specs.Terms.{value}
use Rattle.cv_meaning_laws.proofs.Listed.{Has, cells_distinct, each_map_in, has_flat_map, has_map, within_has}
use Rattle.cv_meaning_laws.proofs.Lists.{each_flat_map}
use Rattle.cv_meaning_chances.specs.Fractions.{one_of, plus, times}
use Rattle.cv_meaning_chances.specs.Tests.{hits_one_of}
use Rattle.cv_meaning_chances.specs.rewording.Rewording.{IsReworded}
use Rattle.cv_meaning_chances.specs.unread.Dropping.{IsUntested}
use Rattle.cv_meaning_chances.proofs.FractionLaws.{at_most_trans}
use Rattle.cv_meaning_chances.proofs.Unions.{chance_all, distance_agree_off}
use Rattle.cv_meaning_chances.proofs.rewording.Alike.{holds_reworded}
use Rattle.cv_meaning_chances.proofs.rewording.SameCells.{same_cells}
use Rattle.cv_meaning_runs.specs.Listed.{IsTestable}
use Rattle.cv_meaning_runs.specs.Replacement.{Process}
use Rattle.cv_meaning_runs.specs.Spots.{has_place, spots_of_inputs, spots_of_visits, same_spot}
use Rattle.cv_meaning_runs.proofs.Lists.{distinct_left}
use Rattle.cv_meaning_runs.proofs.Spots.{spots_distinct}
use Rattle.cv_syntax_trees.specs.sites.Sites.{Variable, first_site}
use Rattle.cv_syntax_trees.specs.declared.sites.sort.Sort.TheVariants.{OfType}
use Rattle.cv_scope_rules.specs.typing.Parts.{IsTypedGame}
use Rattle.cv_typing_runs.specs.Games.{sort_of_meaning, variable_of_meaning}
use Rattle.cv_typing_runs.proofs.Games.{restrictions}
use Rattle.cv_scope_rules.specs.Phrases.{IsWellFormed, IsWellFormedContext}
use Rattle.cv_scope_rules.specs.Scope.{is_variable}
use Rattle.cv_scope_runs.specs.Promises.{CandidatesHold, PlaceHolds}
use Rattle.cv_scope_runs.proofs.Contexts.{game_names, not_constant}
use Rattle.cv_scope_runs.proofs.FactsRuns.{all_candidates_hold, all_places_hold, well_game}
use Rattle.cv_scope_runs.proofs.Games.{Game}
use Rattle.cv_scope_runs.proofs.Plain.{game_context}
use Rattle.cv_scene.specs.Scenes.{Scene, is_queried, is_type_by}
use Rattle.cv_costs.specs.quiet.Quiet.{IsQuiet, only}
use Rattle.cv_costs.proofs.quiet.Chosen as chosen
use Rattle.cv_steps.specs.Changes as changes
use Rattle.cv_steps.proofs.Testable.{game_testable}
use Rattle.cv_steps.specs.values.Values.{collision_value, product_value}
use Rattle.cv_costs.specs.Collisions.{declared_parameters}
use Rattle.cv_costs.specs.Factors.{factors_of}
use Rattle.cv_derive_laws.specs.stores.Costs.{CostsAtMost, bound_of}
use Rattle.cv_scope_rules.specs.typing.Signature.{declaration_of}
use Rattle.cv_steps.specs.Steps.{Cost, Leads}
use Rattle.cv_steps_laws.proofs.Unnamed.{asked_untested}
use Rattle.cv_steps_laws.proofs.Values.{type_value}
use Rattle.cv_rule_fresh.specs.collisions.Chances.{copies}
use Rattle.cv_rule_fresh.proofs.Hits.{first_that}
use Rattle.cv_rule_fresh.proofs.Keeping.{nothing_apart, product_copies}
use Rattle.cv_rule_fresh.proofs.Listed.{bounds, cells_sized, indices_within}
use Rattle.cv_syntax_trees.proofs.lists.Each.{AllByRecursion_both, AllByRecursion_flat_map}
use Rattle.cv_syntax_trees.proofs.lists.Tests.{or_false}
use Rattle.cv_scene.specs.Large.{is_large, is_large_by, first_other_site}
use Rattle.cv_rule_birthday.specs.Comparing.{is_one_of as among}
use Rattle.cv_rule_birthday.specs.guess.Guessing.{first_other_read, without_guesses}
use Rattle.cv_rule_birthday.specs.guess.Row.{cost_at, guess_row, one_for_guesses, one_in, parameters_of}
use Rattle.cv_rule_birthday_laws.proofs.guess.Counted.{copies_of_all}
use Rattle.cv_rule_birthday_laws.proofs.guess.Leads.{guess_leads}
use Rattle.cv_rule_birthday_laws.specs.guess.Spots.{Spot, parameters_of_spot, spots_of, tuple_of}
use Rattle.cv_rule_birthday_laws.proofs.guess.Firsts.{IsFirstAt, firsts_at, is_at}
use Rattle.cv_rule_birthday_laws.proofs.guess.Hits.{HasSize, bound_other, choice_at, copies_of, draws_of, drawn_listed, fitting_within, found_at, hit, hit_chance, hits_of, length_all, pairs_of, store_at, tuples_at, value_at}
use Rattle.cv_rule_birthday_laws.proofs.guess.Reworded.{IsExpected, game_reworded}
use Rattle.cv_rule_birthday_laws.proofs.guess.Twins.{HasDrawn, drawn, related}
use Rattle.cv_rule_birthday_laws.proofs.guess.Unread.{IsUnread, guesses_unread, unread_choices}
use Rattle.cv_rule_birthday_laws.proofs.guess.Values.{IsWrong}

none_hit : (t : Tape) (hs : List (Tape → Bool)) → list_any (λ h. h t) hs ≡ false → (h : Tape → Bool) → Has hs h → h t ≡ false
none_hit t [] e h k = absurd k
none_hit t (f ∷ fs) e h (inl i) = ap (λ (z : Tape → Bool). z t) i ∙ (or_parts (f t) _ e).0
none_hit t (f ∷ fs) e h (inr k) = none_hit t fs (or_parts (f t) _ e).1 h k

all_of : {A : Type 0} (P Q : A → Type 0) (xs : List A) → ((x : A) → Has xs x → P x → Q x) → AllByRecursion P xs → AllByRecursion Q xs
all_of P Q [] f h = tt
all_of P Q (x ∷ xs) f h = (f x (inl refl) h.0, all_of P Q xs (λ y k. f y (inr k)) h.1)

place_of_syntax : (t : Tree) → IsSyntax t → has_place t ≡ true
place_of_syntax Empty i = absurd i
place_of_syntax (Node h a b) i = eq-eqb (weight h) 1 i

still_untested : (x : ℕ) (m : Mode) → IsUntested (changes.only x) m → IsUntested (only x).unread m
still_untested x Events e = tt
still_untested x (Real one y) e = or_false (y == x) ∙ e
still_untested x (Random one y) e = or_false (y == x) ∙ e

module _ (s : Scene) (x : ℕ) (ps : List ℕ) (T : ℕ) (V : Variable) (w : IsWellFormed s.declarations s.game) (formed : IsWellFormed s.declarations (without_guesses x ps s.game)) (typed : IsTypedGame s.declarations s.game)
    (sites : first_other_site (is_large s) x 0 s.game ≡ None) (site : first_site x [] s.game ≡ Some V) (sort : V.sort ≡ OfType T) (reads : first_other_read ps x s.game ≡ None) (unqueried : is_queried s x ≡ false)
    (i : Interpretation) (e : Experiment) (asked : IsAsked (queries_in s.declarations) e) (a : Adversary) where
  abbrev ds : List Declaration
  ds = s.declarations

  abbrev game : Tree
  game = s.game

  abbrev next : Tree
  next = without_guesses x ps game

  abbrev g : Setting
  g = setting_of ds i

  abbrev m : Mode
  m = mode_of e

  abbrev guesses : List Spot
  guesses = spots_of x (among ps) game

  fine : Game g (is_variable game) game
  fine = well_game ds g game refl (game_context ds game w)

  variable : is_variable game x ≡ true
  variable = or_left (is_some (first_site x [] game)) _ (ap is_some site)

  no_constant : g.is_constant x ≡ false
  no_constant = not_constant g (is_variable game) fine.apart x variable

  abbrev Expected : Visit → Type 0
  Expected = IsExpected g x (among ps) (is_large s) (game_names g (is_variable game)) refl variable no_constant game

  reworded : IsReworded g Expected Process 0 next game
  reworded = game_reworded g x (among ps) (is_large s) (game_names g (is_variable game)) refl variable no_constant game w.phrase fine.asked sites

  quiet : IsQuiet (only x) [] Process next
  quiet = chosen.quiet x next formed.phrase (unread_choices x (among ps) (is_large s) game w.phrase sites reads)

  untested : IsUntested (only x).unread m
  untested = still_untested x m (asked_untested s x e asked unqueried)

  testable : IsTestable m next
  testable = game_testable m next formed.phrase

  unread : AllByRecursion (IsUnread x) guesses
  unread = guesses_unread x (among ps) (is_large s) game w.phrase sites reads

  abbrev cs : List (Cell × ℕ)
  cs = cells g m a next

  same : cells g m a next ≡ cells g m a game
  same = same_cells g Expected next game reworded m a

  sizes : HasSize x (i.type_size T) cs
  sizes u =
      subst (AllByRecursion (λ (d : Cell × ℕ). d.0 ≡ New_at x u → d.1 ≡ i.type_size T)) (sym same)
      (cells_sized ds i game x u (i.type_size T) (variable_of_meaning V) (ap (option_map variable_of_meaning) site) T (ap sort_of_meaning sort) refl m a (restrictions ds game typed))

  -- the tapes on which a guess is right

  abbrev hit_of : Spot → List ℕ → List ℕ → Tape → Bool
  hit_of = hit g m a next x cs

  abbrev hits : List (Tape → Bool)
  hits = flat_map (hits_of i g refl hit_of) guesses

  abbrev bad : Tape → Bool
  bad t = list_any (λ h. h t) hits

  abbrev visited : Tape → List Visit
  visited t = visits_of_run g m a next t

  wrong : (t : Tape) → bad t ≡ false → (v : Visit) → HasDrawn g x m untested a next quiet t v → IsFirstAt (visited t) v → (k : Spot) → Has guesses k → IsUnread x k → IsWrong g x v k
  wrong t f v d first k has u syntax place indices y fits r assigned =
      let at = v.before.indices in
      let n = store_at g m a next x v k y in
      let ws : List ℕ = tuple_of g at n k.side in
      let own : v.before.memory.store x ws ≡ Some r = sym (bound_other x v.before.memory.store (tuple at) k.binders y ws u.binders) ∙ assigned in
      let cell = (d.own x (or_left (x == x) false (eq-eqb x x refl)) ws).1 r own in
      let listed : list_any (same_cell (New_at x ws)) (draws_of x cs) ≡ true = drawn_listed x ws cs cell.1 in
      let among_hits : Has hits (hit_of k (tuple at) y) =
      has_flat_map (hits_of i g refl hit_of) guesses k (hit_of k (tuple at) y) has
      (has_flat_map (λ c. map (hit_of k c) (tuples_at i g refl k)) (copies_of i g refl k) (tuple at) (hit_of k (tuple at) y)
      (within_has (tuple at) (bounds g k.replications) (indices_within g at k.replications indices))
      (has_map (hit_of k (tuple at)) (tuples_at i g refl k) y (within_has y (bounds g (pairs_of k.binders)) (fitting_within g k.binders y fits)))) in
      let there : found_at g m a next x k.place (tuple at) t ≡ Some v = subst (λ q. first_that (is_at q (tuple at)) (visited t) ≡ Some v) (sym place) (first (place_of_syntax v.tree syntax)) in
      let no_hit : hits_one_of (draws_of x cs) (New_at x ws) (value g at n k.other) t ≡ false =
      subst (λ o. hits_one_of (draws_of x cs) (choice_at g m a next x k y o) (value_at g m a next x k y o) t ≡ false) there (none_hit t hits f (hit_of k (tuple at) y) among_hits) in
      ap (λ z. z == value g at n k.other) cell.0 ∙ (ap (λ b. b && (t (New_at x ws) == value g at n k.other)) (sym listed) ∙ no_hit)

  record Known (t : Tape) (v : Visit) : Type 0 where
    places : PlaceHolds g next v
    candidates : CandidatesHold g next v

  expected : (t : Tape) → bad t ≡ false → AllByRecursion Expected (visited t)
  unfolding visits_of_run
  expected t f =
      let context : IsWellFormedContext ds next = game_context ds next formed in
      let strategy = a.next (coins_on t 0 a.coins) in
      let known : AllByRecursion (Known t) (visited t) =
      AllByRecursion_both (PlaceHolds g next) (CandidatesHold g next) (Known t) (λ v p c. record { places = p; candidates = c }) (visited t)
      (all_places_hold ds g m strategy t a.moves next refl context) (all_candidates_hold ds g m strategy t a.moves next refl context) in
      let firsts : AllByRecursion (IsFirstAt (visited t)) (visited t) =
      firsts_at (visited t) (distinct_left same_spot (spots_of_visits (visited t)) (spots_of_inputs (run g m a next t).inputs) (spots_distinct g m a next t)) in
      let own : AllByRecursion (λ v. AllByRecursion (IsWrong g x v) guesses) (visited t) =
      AllByRecursion_both (HasDrawn g x m untested a next quiet t) (IsFirstAt (visited t)) (λ v. AllByRecursion (IsWrong g x v) guesses)
      (λ v d first. all_of (IsUnread x) (IsWrong g x v) guesses (λ k has u. wrong t f v d first k has u) unread) (visited t)
      (drawn g x m untested a next quiet testable t) firsts in
      AllByRecursion_both (Known t) (λ v. AllByRecursion (IsWrong g x v) guesses) Expected (λ v k o. record { places = k.places; candidates = k.candidates; wrong = o }) (visited t) known own

  -- chances

  agree : AtMost (distance (chance cs (holds_on g e a game)) (chance cs (holds_on g e a next))) (chance cs bad)
  agree = distance_agree_off cs (holds_on g e a game) (holds_on g e a next) bad (cells_distinct g m a next) (λ t within f. sym (holds_reworded g Expected e a next game t reworded (expected t f)))

  abbrev OfOne : (Tape → Bool) → Type 0
  OfOne h = AtMost (chance cs h) (one_of (i.type_size T))

  each : AllByRecursion OfOne hits
  each =
      AllByRecursion_flat_map (IsUnread x) OfOne (hits_of i g refl hit_of)
      (λ k u. each_flat_map OfOne (λ c. map (hit_of k c) (tuples_at i g refl k)) (copies_of i g refl k)
      (λ c. each_map_in OfOne (hit_of k c) (tuples_at i g refl k) (λ y h. hit_chance g m a next x (related g x m untested a next quiet) k u c y cs (i.type_size T) (cells_distinct g m a next) sizes)))
      guesses unread

  counted : AtMost (chance cs bad) (times (length hits) (one_of (i.type_size T)))
  counted = chance_all cs hits (one_of (i.type_size T)) (All-from_recursion OfOne hits each)

  abbrev bound : Chance
  bound = record { good = sum_by (copies i) (map parameters_of_spot guesses); all = i.type_size T }

  bound_is : times (length hits) (one_of (i.type_size T)) ≡ bound
  bound_is =
      let n : length hits ≡ sum_by (copies i) (map parameters_of_spot guesses) = length_all i g refl hit_of guesses in
      let k : length hits * 1 ≡ sum_by (copies i) (map parameters_of_spot guesses) = (let z : length hits * 1 ≡ length hits = omega arith in z) ∙ n in
      λ j. record { good = k j; all = i.type_size T }

  pub costs : AtMost (distance (chance_of g e a game) (chance_of g e a next)) bound
  unfolding chance_of
  costs =
      let here : chance cs (holds_on g e a game) ≡ chance_of g e a game = ap (λ ds. chance ds (holds_on g e a game)) same in
      subst (λ p. AtMost (distance p (chance cs (holds_on g e a next))) bound) here
      (subst (AtMost (distance (chance cs (holds_on g e a game)) (chance cs (holds_on g e a next)))) bound_is (go (total cs) refl))
    where
      go : (n : ℕ) → total cs ≡ n → AtMost (distance (chance cs (holds_on g e a game)) (chance cs (holds_on g e a next))) (times (length hits) (one_of (i.type_size T)))
      go zero k = nothing_apart (chance cs (holds_on g e a game)) (chance cs (holds_on g e a next)) (times (length hits) (one_of (i.type_size T))) k k
      go (suc n) k = at_most_trans (distance (chance cs (holds_on g e a game)) (chance cs (holds_on g e a next))) (chance cs bad) (times (length hits) (one_of (i.type_size T))) (omega arith) agree counted

more_copies : (p : Chance) (j k n : ℕ) → j ≤ k → AtMost p (record { good = j; all = n }) → AtMost p (record { good = k; all = n })
more_copies p j k n l h = le_trans h (mul-le-mul_right p.all l)

-- a large type is a type
pub large_type : (d : Option Declaration) → is_large_by d ≡ true → is_type_by d ≡ true
large_type (Some (Named T (class.TypeName fixed large) arguments result)) e = refl
large_type (Some d) e = absurd (cc)
large_type None e = absurd (cc)

-- what the cost is worth

worth_of_one : (i : Interpretation) (ds : List Declaration) (T : ℕ) (ns : List ℕ) → collision_value i (one_in ds T ns) ≡ record { good = copies i ns; all = i.type_size T }
worth_of_one i ds T ns =
    let v = product_value i (factors_of (declared_parameters ds) ns) in
    let one : 1 * v ≡ v = omega arith in
    λ j. record { good = (one ∙ product_copies (declared_parameters ds) i ns) j; all = i.type_size T }

pub worth : (i : Interpretation) (ds : List Declaration) (T : ℕ) (pss : List (List ℕ)) → AtMost (record { good = sum_by (copies i) pss; all = i.type_size T }) (bound_of i (one_for_guesses ds pss T))
worth i ds T [] = omega arith
worth i ds T (ns ∷ pss) =
    let rest : Chance = bound_of i (one_for_guesses ds pss T) in
    let h = mul-le-mul_right (i.type_size T) (worth i ds T pss) in
    let e = sum_by-cons (copies i) ns pss in
    subst (λ p. AtMost (record { good = sum_by (copies i) (ns ∷ pss); all = i.type_size T }) (plus p rest)) (sym (worth_of_one i ds T ns))
    (joined (sum_by (copies i) (ns ∷ pss)) (copies i ns) (sum_by (copies i) pss) (i.type_size T) rest.good rest.all e h)
  where
    joined : (z c k n m t : ℕ) → z ≡ c + k → k * t * n ≤ m * n * n → z * (n * t) ≤ (c * t + m * n) * n
    joined z c k n m t e h = let f = ap (λ y. y * (n * t)) e in omega arith

pub guesses_cost : (s : Scene) (x : ℕ) (ps : List ℕ) (next : Tree) (cost : Cost) → IsWellFormed s.declarations s.game → IsWellFormed s.declarations next → IsTypedGame s.declarations s.game → guess_row s x ps ≡ Leads next cost
    → CostsAtMost s.declarations s.game next cost
guesses_cost s x ps next cost w formed typed row i sat e asked a =
    let r = guess_leads next cost s x ps row in
    let d : Chance = distance (chance_of (setting_of s.declarations i) e a s.game) (chance_of (setting_of s.declarations i) e a (without_guesses x ps s.game)) in
    let all : List (List ℕ) = map (parameters_of s.game) ps in
    let positive : 0 < i.type_size r.type = type_value s i sat r.type (large_type (declaration_of s.declarations r.type) r.large) in
    subst (λ (z : Tree × Cost). AtMost (distance (chance_of (setting_of s.declarations i) e a s.game) (chance_of (setting_of s.declarations i) e a z.0)) (bound_of i z.1)) (λ j. (r.leads j, r.priced j))
    (at_most_trans d (record { good = sum_by (copies i) all; all = i.type_size r.type }) (bound_of i (cost_at s ps r.type)) positive
    (more_copies d (sum_by (copies i) (map parameters_of_spot (spots_of x (among ps) s.game))) (sum_by (copies i) all) (i.type_size r.type) (copies_of_all i x s.game ps w.phrase)
    (costs s x ps r.type r.variable w (subst (IsWellFormed s.declarations) (sym r.leads) formed) typed r.sites r.site r.sort r.reads r.unqueried i e asked a))
    (worth i s.declarations r.type all))
