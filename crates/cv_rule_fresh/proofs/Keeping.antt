-- An accepted `fresh` changes chances by no more than the copies of the choice in the size of its type.
use Rattle.std.proofs.Common.{◌≡◌, ℕ, zero, suc, ◌+◌, ◌-◌, ◌*◌, ◌≤◌, ◌==◌, Bool, true, false, List, [], ◌∷◌, length, map, ◌⊎◌, inl, inr, Some, refl, sym, ap, ap₂, subst, ◌∙◌, arith, eq-eqb}
use Rattle.std.proofs.lemmas.Bool.{both_ways, and_parts, or_left, or_parts}
use Rattle.std.proofs.lemmas.List.{length-map}
use Rattle.std.proofs.lemmas.List.Elements.{All-from_recursion}
use Rattle.std.specs.List.{AllByRecursion, list_any}
use Rattle.cv_syntax_trees.specs.declared.head.Head.TheVariants.{Eq, New}
use Rattle.cv_syntax_trees.specs.Declarations.{Declaration}
use Rattle.cv_syntax_trees.specs.Tree.{Tree, Node}
use Rattle.cv_meaning.specs.Tapes.{Cell, New_at, Tape, total}
use Rattle.cv_meaning.specs.Interpretation.{Interpretation, Setting, setting_of}
use Rattle.cv_meaning.specs.Memory.{Indices, Store, tuple}
use Rattle.cv_meaning.specs.Terms.{bit, or_zero, value, value_here}
use Rattle.cv_meaning.specs.Replaced.{replaced}
use Rattle.cv_meaning.specs.Serving.{Visit}
use Rattle.cv_meaning.specs.Runs.{Adversary, Mode}
use Rattle.cv_meaning.specs.Cells.{cells, tuples_below}
use Rattle.cv_meaning.specs.Chances.{AtMost, Chance, chance, distance}
use Rattle.cv_meaning.specs.Experiments.{Experiment, coins_on, holds_on, mode_of, visits_of_run}
use Rattle.cv_meaning.specs.Advantage.{chance_of}
use Rattle.cv_meaning_laws.proofs.Listed.{Has, cells_distinct, each_map_in, within_has}
use Rattle.cv_meaning_chances.specs.Fractions.{one_of, times}
use Rattle.cv_meaning_chances.proofs.FractionLaws.{at_most_trans}
use Rattle.cv_meaning_chances.proofs.Hits.{chance_equal}
use Rattle.cv_meaning_chances.proofs.Unions.{chance_all, distance_agree_off}
use Rattle.cv_meaning_runs.specs.Replacement.{Process}
use Rattle.cv_meaning_chances.specs.rewording.Rewording.{IsReworded}
use Rattle.cv_meaning_chances.proofs.rewording.Alike.{holds_reworded}
use Rattle.cv_meaning_chances.proofs.rewording.SameCells.{same_cells}
use Rattle.cv_scene.specs.lines.Truths.{no}
use Rattle.cv_scope_rules.specs.typing.Parts.{IsTypedGame}
use Rattle.cv_typing_runs.proofs.Games.{restrictions}
use Rattle.cv_scope_rules.specs.Context.{Context, cell_of, known_at, nothing_known}
use Rattle.cv_scope_rules.specs.Made.{OwnUnassigned}
use Rattle.cv_scope_rules.specs.Phrases.{IsWellFormed, IsWellFormedContext, Inputs, Term, is_oracle_phrase}
use Rattle.cv_scope_rules.specs.Scope.{is_variable, names_of}
use Rattle.cv_scope_runs.specs.Promises.{AreIndicesOf}
use Rattle.cv_scope_runs.proofs.ConsultedOnce.{all_consulted_once, all_own_unassigned}
use Rattle.cv_scope_runs.proofs.Contexts.{Matches, game_names, own_value}
use Rattle.cv_scope_runs.proofs.FactsRuns.{well_game}
use Rattle.cv_scope_runs.proofs.Games.{Game, stands_phrase}
use Rattle.cv_scope_runs.proofs.Plain.{game_context}
use Rattle.cv_scope_runs.proofs.ServeRuns.{VisitHolds, game_holds}
use Rattle.cv_scope_runs.proofs.Standing.{Stands, root, stands_known}
use Rattle.cv_scene.specs.Scenes.{Scene, part_at}
use Rattle.cv_scene.specs.Terms.{replications_at, replications_by}
use Rattle.cv_steps.specs.Rewriting.{has_term_at}
use Rattle.cv_steps.proofs.Testable.{local}
use Rattle.cv_steps.specs.Steps.{Cost, Leads}
use Rattle.cv_steps.specs.values.Values.{product_value}
use Rattle.cv_derive_laws.specs.stores.Costs.{CostsAtMost, bound_of}
use Rattle.cv_costs.specs.Collisions.{declared_parameters, one_for_each}
use Rattle.cv_costs.specs.Factors.{factors_of}
use Rattle.cv_costs.proofs.Values.{with_value}
use Rattle.cv_rule_fresh.specs.collisions.Chances.{copies}
use Rattle.cv_rule_fresh.specs.collisions.Choices.{Choice, parameters_at}
use Rattle.cv_costs.specs.names.Reach.{is_in_scope, is_in_scope_by}
use Rattle.cv_rule_fresh.specs.collisions.Fresh.{fresh_row}
use Rattle.cv_rule_fresh.proofs.Branches.{Guess}
use Rattle.cv_rule_fresh.proofs.Hits.{IsFirst, firsts, value_at, value_ignores, value_when}
use Rattle.cv_rule_fresh.proofs.Leads.{BySide, LeadsFresh, fresh_leads}
use Rattle.cv_rule_fresh.proofs.Listed.{bounds, choice_contained, indices_within, length_tuples}
use Rattle.cv_rule_fresh.proofs.Missed.{DrawsAnother, Misses, MissesThere}
use Rattle.cv_rule_fresh.proofs.Reworded.{Holds, game_reworded}
use Rattle.cv_rule_fresh.proofs.Runs.{game_misses}
use Rattle.cv_rule_fresh.proofs.Standing.{StandsNew, There, new_of, stands_choice, there}
use Rattle.cv_syntax_trees.proofs.lists.Tests.{equals_comm, differs}
use Rattle.cv_syntax_trees.proofs.lists.Each.{AllByRecursion_both}

-- chances without tapes are at no distance
pub nothing_apart : (p q r : Chance) → p.all ≡ 0 → q.all ≡ 0 → AtMost (distance p q) r
nothing_apart p q r e f = go p.all q.all e f
  where
    go : (a b : ℕ) → a ≡ 0 → b ≡ 0 → ((p.good * b - q.good * a) + (q.good * a - p.good * b)) * r.all ≤ r.good * (a * b)
    go zero zero e f =
        let d : (p.good * 0 - q.good * 0) + (q.good * 0 - p.good * 0) ≡ 0 = omega arith in
        subst (λ z. z * r.all ≤ r.good * (0 * 0)) (sym d) (omega arith)
    go (suc a) b e f = absurd (omega arith)
    go zero (suc b) e f = absurd (omega arith)

-- what one value for each copy is worth

abbrev fraction_of : (good all : ℕ) → Chance
fraction_of m n = record { good = m; all = n }

pub product_copies : (order : List ℕ) (i : Interpretation) (ps : List ℕ) → product_value i (factors_of order ps) ≡ copies i ps
unfolding copies
product_copies order i [] = refl
product_copies order i (p ∷ ps) = with_value order i p (factors_of order ps) ∙ ap (λ m. i.parameter_value p * m) (product_copies order i ps)

worth : (i : Interpretation) (ds : List Declaration) (ps : List ℕ) (T : ℕ) → bound_of i (one_for_each ds ps T) ≡ fraction_of (copies i ps) (i.type_size T)
worth i ds ps T =
    let v = product_value i (factors_of (declared_parameters ds) ps) in
    let good : 1 * v * 1 + 0 * i.type_size T ≡ v = omega arith in
    let all : i.type_size T * 1 ≡ i.type_size T = omega arith in
    ap₂ fraction_of (good ∙ product_copies (declared_parameters ds) i ps) all

-- one side reads a variable, and the other is known before its choice
module _ (s : Scene) (place : ℕ) (left right side other next : Tree) (cost : Cost) (w : IsWellFormed s.declarations s.game) (typed : IsTypedGame s.declarations s.game)
    (part : part_at s.game place ≡ Node Eq left right) (stands : has_term_at Inputs s.game place ≡ true) (b : BySide s place side other next cost)
    (compares : (g : Setting) (at : Indices) (m : Store) → value g at m (Node Eq left right) ≡ bit (value g at m side == value g at m other))
    (whole : is_oracle_phrase Term (Node Eq left right) ≡ true → is_oracle_phrase Term other ≡ true) (i : Interpretation) (e : Experiment) (a : Adversary) where
  abbrev ds : List Declaration
  ds = s.declarations

  abbrev game : Tree
  game = s.game

  abbrev g : Setting
  g = setting_of ds i

  abbrev x : ℕ
  x = b.variable

  abbrev c : Choice
  c = b.choice

  abbrev m : Mode
  m = mode_of e

  context : IsWellFormedContext ds game
  context = game_context ds game w

  fine : Game g (is_variable game) game
  fine = well_game ds g game refl context

  variable : is_variable game x ≡ true
  variable = or_left _ _ b.site

  standing : There game 0 Inputs nothing_known game place
  standing = there game Inputs game place root w.phrase stands

  old_stands : Stands game place Term standing.above (Node Eq left right)
  old_stands = subst (λ t. Stands game place Term standing.above t) part (subst (λ n. Stands game n Term standing.above (part_at game place)) (let z : 0 + place ≡ place = omega arith in z) standing.stands)

  other_whole : is_oracle_phrase Term other ≡ true
  other_whole = whole (stands_phrase g (is_variable game) game fine old_stands)

  chosen : StandsNew game x c
  chosen = new_of game x old_stands c (sym (stands_choice game x (Node Eq left right) old_stands refl) ∙ b.above)

  chosen_known : known_at game c.place ≡ Some chosen.above
  chosen_known = stands_known game c.place chosen.phrase chosen.above (Node (New x c.type) chosen.one chosen.two) refl chosen.stands

  false_there : (Γ : Context) → known_at game place ≡ Some Γ → (at : Indices) (n : Store) → Matches g (is_variable game) Γ.replications at → Misses g (is_variable game) x other at n → value g at n (Node Eq left right) ≡ value g at n no
  unfolding value
  false_there Γ k at n f z =
      let rs : replications_at s place ≡ Γ.replications = ap replications_by k in
      let same : value g at n side ≡ z.drawn =
      ap (value g at n) (b.cell ∙ ap (λ qs. cell_of qs x) rs) ∙ own_value g (is_variable game) fine.apart Γ.replications at n f x variable ∙ ap or_zero z.assigned in
      compares g at n ∙ ap (λ v. bit (v == value g at n other)) same ∙ ap bit (differs z.drawn (value g at n other) z.apart)

  guess : Guess g game place (Node Eq left right) x c other
  guess = record { fine = fine; whole = w.phrase; syntax_node = refl; above = b.above; false_there = false_there }

  scope : (Γ : Context) → known_at game c.place ≡ Some Γ → is_in_scope (game_names g (is_variable game)) Γ other ≡ true
  scope Γ k = subst (λ o. is_in_scope_by (names_of ds game) o other ≡ true) k b.scope

  -- the copies of the choice, and when one of them is the value of the term

  abbrev copy_tuples : List (List ℕ)
  copy_tuples = tuples_below (bounds g chosen.above.replications)

  abbrev hit : List ℕ → Tape → Bool
  hit u t = t (New_at x u) == value_when g m a game other (New_at x u) t

  abbrev bad : Tape → Bool
  bad t = list_any (λ p. p t) (map hit copy_tuples)

  none_hit : (t : Tape) (us : List (List ℕ)) → list_any (λ p. p t) (map hit us) ≡ false → (u : List ℕ) → Has us u → hit u t ≡ false
  none_hit t [] f u h = absurd h
  none_hit t (v ∷ us) f u (inl h) = subst (λ z. hit z t ≡ false) (sym h) (or_parts (hit v t) _ f).0
  none_hit t (v ∷ us) f u (inr h) = none_hit t us (or_parts (hit v t) _ f).1 u h

  draws : (t : Tape) → bad t ≡ false → (v : Visit) → VisitHolds g (is_variable game) game fine v → IsFirst g (visits_of_run g m a game t) v → DrawsAnother g x c other t v
  draws t f v h first there syntax consults same =
      let k : Some h.above ≡ Some chosen.above = sym (stands_known game v.place h.phrase h.above v.tree syntax h.stands) ∙ (ap (known_at game) there ∙ chosen_known) in
      let one : h.above ≡ chosen.above = cc in
      let named : AreIndicesOf g v.before.indices chosen.above.replications = subst (λ (Γ : Context). AreIndicesOf g v.before.indices Γ.replications) one h.matches.named in
      let u : List ℕ = tuple v.before.indices in
      let missed : hit u t ≡ false = none_hit t copy_tuples f u (within_has u (bounds g chosen.above.replications) (indices_within g v.before.indices chosen.above.replications named)) in
      let told : value_when g m a game other (New_at x u) t ≡ value_here g v.before other = ap (value_at g other) (first (New_at x u) consults) in
      both_ways _ missed (eq-eqb (t (New_at x u)) (value_when g m a game other (New_at x u) t) (same ∙ sym told))

  visits_hold : (t : Tape) → bad t ≡ false → AllByRecursion (Holds g game place (Node Eq left right) x c other guess) (visits_of_run g m a game t)
  unfolding visits_of_run guess fine
  visits_hold t f =
      let strategy = a.next (coins_on t 0 a.coins) in
      let passes = (game_holds g (is_variable game) game fine m strategy t a.moves).passes in
      let vs : List Visit = visits_of_run g m a game t in
      let drawn : AllByRecursion (DrawsAnother g x c other t) vs =
      AllByRecursion_both (VisitHolds g (is_variable game) game fine) (IsFirst g vs) (DrawsAnother g x c other t) (draws t f) vs passes.visits (firsts g vs (all_consulted_once ds g m strategy t a.moves game w)) in
      AllByRecursion_both (MissesThere g (is_variable game) game x c other) (λ v. OwnUnassigned v × VisitHolds g (is_variable game) game fine v) (Holds g game place (Node Eq left right) x c other guess) (λ v y z. (y, z.0, z.1)) vs
      (game_misses g (is_variable game) game fine x c other t other_whole scope m strategy a.moves passes.visits passes.order drawn)
      (AllByRecursion_both OwnUnassigned (VisitHolds g (is_variable game) game fine) (λ v. OwnUnassigned v × VisitHolds g (is_variable game) game fine v) (λ v y z. (y, z)) vs (all_own_unassigned ds g m strategy t a.moves game context) passes.visits)

  reworded : IsReworded g (Holds g game place (Node Eq left right) x c other guess) Process 0 game (replaced game place no)
  reworded = game_reworded g game place (Node Eq left right) x c other guess part stands

  -- chances

  abbrev cs : List (Cell × ℕ)
  cs = cells g m a game

  agree : AtMost (distance (chance cs (holds_on g e a game)) (chance cs (holds_on g e a (replaced game place no)))) (chance cs bad)
  agree = distance_agree_off cs (holds_on g e a game) (holds_on g e a (replaced game place no)) bad (cells_distinct g m a game) (λ t within f. holds_reworded g (Holds g game place (Node Eq left right) x c other guess) e a game (replaced game place no) t reworded (visits_hold t f))

  each_hit : (u : List ℕ) → Has copy_tuples u → AtMost (chance cs (hit u)) (one_of (i.type_size c.type))
  each_hit u h =
      chance_equal cs (New_at x u, i.type_size c.type) (value_when g m a game other (New_at x u)) (cells_distinct g m a game)
      (choice_contained ds i game (is_variable game) fine (restrictions ds game typed) m a chosen.above x c.type chosen.one chosen.two u chosen.stands b.site h)
      (value_ignores g local m a game other x u)

  hits : AtMost (chance cs bad) (times (length (map hit copy_tuples)) (one_of (i.type_size c.type)))
  hits = chance_all cs (map hit copy_tuples) (one_of (i.type_size c.type)) (All-from_recursion (λ p. AtMost (chance cs p) (one_of (i.type_size c.type))) (map hit copy_tuples) (each_map_in (λ p. AtMost (chance cs p) (one_of (i.type_size c.type))) hit copy_tuples each_hit))

  abbrev ps : List ℕ
  ps = parameters_at s c.place

  bound : times (length (map hit copy_tuples)) (one_of (i.type_size c.type)) ≡ bound_of i cost
  bound =
      let k : length (map hit copy_tuples) ≡ copies i ps =
      length-map copy_tuples hit ∙ length_tuples i chosen.above.replications ∙ ap (copies i) (sym (ap (λ o. map (λ (r : ℕ × ℕ). r.1) (replications_by o)) chosen_known)) in
      let n : length (map hit copy_tuples) * 1 ≡ copies i ps = omega arith in
      ap (λ m. fraction_of m (i.type_size c.type)) n ∙ (sym (worth i ds ps c.type) ∙ ap (bound_of i) b.priced)

  costs : AtMost (distance (chance_of g e a game) (chance_of g e a next)) (bound_of i cost)
  unfolding chance_of
  costs =
      let there_chance : chance cs (holds_on g e a (replaced game place no)) ≡ chance_of g e a next =
      ap (λ ds. chance ds (holds_on g e a (replaced game place no))) (same_cells g (Holds g game place (Node Eq left right) x c other guess) game (replaced game place no) reworded m a) ∙ ap (chance_of g e a) b.leads in
      subst (λ q. AtMost (distance (chance cs (holds_on g e a game)) q) (bound_of i cost)) there_chance (subst (AtMost (distance (chance cs (holds_on g e a game)) (chance cs (holds_on g e a (replaced game place no))))) bound (go (total cs) refl))
    where
      go : (n : ℕ) → total cs ≡ n → AtMost (distance (chance cs (holds_on g e a game)) (chance cs (holds_on g e a (replaced game place no)))) (times (length (map hit copy_tuples)) (one_of (i.type_size c.type)))
      go zero k = nothing_apart (chance cs (holds_on g e a game)) (chance cs (holds_on g e a (replaced game place no))) (times (length (map hit copy_tuples)) (one_of (i.type_size c.type))) k k
      go (suc n) k = at_most_trans (distance (chance cs (holds_on g e a game)) (chance cs (holds_on g e a (replaced game place no)))) (chance cs bad) (times (length (map hit copy_tuples)) (one_of (i.type_size c.type))) (omega arith) agree hits

pub misses : (s : Scene) (place : ℕ) (next : Tree) (cost : Cost) → IsWellFormed s.declarations s.game → IsTypedGame s.declarations s.game → fresh_row s place ≡ Leads next cost → CostsAtMost s.declarations s.game next cost
unfolding value is_oracle_phrase
misses s place next cost w typed e i sat y asked a = go (fresh_leads s place next cost e)
  where
    go : LeadsFresh s place next cost → AtMost (distance (chance_of (setting_of s.declarations i) y a s.game) (chance_of (setting_of s.declarations i) y a next)) (bound_of i cost)
    go r = by r.by
      where
        by : BySide s place r.left r.right next cost ⊎ BySide s place r.right r.left next cost → AtMost (distance (chance_of (setting_of s.declarations i) y a s.game) (chance_of (setting_of s.declarations i) y a next)) (bound_of i cost)
        by (inl b) = costs s place r.left r.right r.left r.right next cost w typed r.part r.stands b (λ g at m. refl) (λ k. (and_parts (is_oracle_phrase Term r.left) _ k).1) i y a
        by (inr b) =
            costs s place r.left r.right r.right r.left next cost w typed r.part r.stands b (λ g at m. ap bit (equals_comm (value g at m r.left) (value g at m r.right))) (λ k. (and_parts (is_oracle_phrase Term r.left) _ k).0) i y a
