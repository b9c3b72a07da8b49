-- The choice under which each left event has its right events: where the routes of its entry lead to.
use Rattle.std.proofs.Common.{◌≡◌, ℕ, zero, suc, ◌<◌, ◌≤◌, Bool, true, false, cond, ◌==◌, nat_lt, ltb-true, ltb-false, List, [], ◌∷◌, length, ◌⊎◌, inl, inr, Option, Some, None, is_some, refl, sym, ap, subst, ◌∙◌, arith, eqb-true, eq-eqb}
use Rattle.std.specs.Prelude.{Contains, slice_get}
use Rattle.std.proofs.lemmas.Bool.{and_parts, both_ways}
use Rattle.std.proofs.lemmas.List.Elements.{Contains-append_left, Contains-append_right}
use Rattle.std.specs.List.{AllByRecursion}
use Rattle.cv_syntax_trees.proofs.lists.Options.{AllByRecursion_slice_get, none_some, some_injective}
use Rattle.cv_syntax_trees.specs.declared.head.Head.TheVariants.{AtEntry, Event, NeverEntry, WithEntry}
use Rattle.cv_syntax_trees.specs.Tree.{Tree, Node, size, subtree}
use Rattle.cv_syntax.specs.Layouts.{IsSyntax}
use Rattle.cv_meaning.specs.Interpretation.{Interpretation, Setting, setting_of}
use Rattle.cv_meaning.specs.Memory.{Happened, Local, Memory, tuple}
use Rattle.cv_meaning.specs.Satisfies.{Satisfies}
use Rattle.cv_meaning.specs.Terms.{values_here}
use Rattle.cv_meaning.specs.Tapes.{Tape}
use Rattle.cv_meaning.specs.Runs.{Adversary, Events}
use Rattle.cv_meaning.specs.Experiments.{run, visits_of_run}
use Rattle.cv_meaning.specs.Serving.{Visit}
use Rattle.cv_meaning.specs.Correspondences.{Atom, Correspondence, RightEvent, RightTerm}
use Rattle.cv_query_certificates.specs.Alternatives.{chosen}
use Rattle.cv_meaning_laws.specs.adequacy.Broken.{AreValues, Choice, HasMatching, HoldsWith, IsLeftAt, IsMarkedAt, StandsAt, query_values, right_event}
use Rattle.cv_meaning_runs.specs.Placed.{IsSubtreeOrList, VisitHas}
use Rattle.cv_meaning_runs.proofs.Placed.{visits_subtrees}
use Rattle.cv_scope_rules.specs.Above.{stands_at}
use Rattle.cv_scope_rules.specs.Behind.{sites_of}
use Rattle.cv_scope_rules.specs.Context.{Context, known_at}
use Rattle.cv_scope_runs.proofs.Plain.{game_context}
use Rattle.cv_scope_runs.proofs.Standing.{stands_known}
use Rattle.cv_derive_facts.specs.Definitions.{IsBehind}
use Rattle.cv_scene.specs.Scenes.{Scene}
use Rattle.cv_scene.specs.Terms.{replications_at, replications_by}
use Rattle.cv_scene.specs.lines.Lines.{lines_of, statements}
use Rattle.cv_scene.specs.lines.Targets.{falsity}
use Rattle.cv_derive_laws.specs.reached.Copies.{AreReachedInPairs, HoldInPairs}
use Rattle.cv_derive_laws.specs.reached.Fine.{IsFine}
use Rattle.cv_derive_laws.specs.stores.Holding.{HoldAtVisit, IsReady}
use Rattle.cv_derive_laws.specs.stores.Truth.{AreApart, IsTrue}
use Rattle.cv_derive_laws.proofs.reached.Targets.{ends_hold}
use Rattle.cv_query_certificates.specs.Accepted.{AreParts, IsEntry, Proves}
use Rattle.cv_query_certificates.specs.Claims.{at_place}
use Rattle.cv_query_certificates.specs.EventNodes.{are_for, arguments_at}
use Rattle.cv_query_certificates.specs.Forms.{have_types, is_number, left_places}
use Rattle.cv_query_certificates.specs.Marks.{raise_of}
use Rattle.cv_query_certificates.specs.PairParts.{behind_entries, distinct_in}
use Rattle.cv_query_certificates.specs.Pairs.{ends_in, needed_among, needed_pairs}
use Rattle.cv_scene.specs.Sights.{sight_at}
use Rattle.cv_query_laws.specs.correspondences.Happenings.{happening, happening_at}
use Rattle.cv_query_laws.specs.routes.Ends.{AreMetBy, IsExecuted, IsMetBy, choice_of, entry_atoms, entry_routes, item_at, route_place, route_tuple, witnesses_of}
use Rattle.cv_query_laws.specs.visits.Visited.{IsFront}
use Rattle.cv_query_laws.specs.visits.Events.{event_visits}
use Rattle.cv_query_laws.proofs.correspondences.Behind.{IsAmong, place_among}
use Rattle.cv_query_laws.proofs.routes.Executed.{holds_at}
use Rattle.cv_query_laws.proofs.visits.OneBody.{visit_long}
use Rattle.cv_query_laws.proofs.visits.Positions.{event_position, visit_stands}
use Rattle.cv_query_secrets.proofs.names.Ends.{raised_above}
use Rattle.cv_query_injections.proofs.places.Entered.{IsRouted, Kind, among_needed, end_among, entry_at, entry_ends, entry_stands, game_ascends, is_needed, kind_of, never, routed}
use Rattle.cv_query_injections.proofs.matching.Ended.{RouteEnds, route_at, route_ends}
use Rattle.cv_query_injections.proofs.matching.Told.{no_false, pair_proved, told}

slice_contains : {A : Type 0} (xs : List A) (n : ℕ) (x : A) → slice_get xs n ≡ Some x → Contains xs x
slice_contains [] n x e = absurd (none_some x e)
slice_contains (y ∷ xs) zero x e = Contains-append_left (y ∷ []) xs x (0, omega arith, some_injective e)
slice_contains (y ∷ xs) (suc n) x e = Contains-append_right (y ∷ []) xs x (slice_contains xs n x e)

no_term : (h c f : ℕ) (ms b : Tree) → ◌≡◌ {A = Option (ℕ × Atom)} (Some (h, RightTerm b)) (Some (c, RightEvent true f ms)) → ⊥
no_term h c f ms b e = other (ap (λ (d : ℕ × Atom). d.1) (some_injective e))
  where
    other : RightTerm b ≡ RightEvent true f ms → ⊥
    other e = cc

-- the visit of a left event

pub record IsLeftVisit (g : Setting) (q : Correspondence) (game : Tree) (vs : List Visit) (n : ℕ) (e : Happened) : Type 0 where
  pub visit : Visit
  pub stands : StandsAt (event_visits vs) n visit
  pub executes : happening_at g visit ≡ e ∷ []
  pub number : ℕ
  pub among : StandsAt vs number visit
  pub counts : IsSyntax visit.tree
  pub arguments : Tree
  pub next : Tree
  pub there : subtree game visit.place ≡ Some (Node (Event q.event) arguments next)

no_event : (e : Happened) → ◌≡◌ {A = List Happened} [] (e ∷ []) → ⊥
no_event e k = cc

-- a visit among those of events is one of a node
event_syntax : (vs : List Visit) (n : ℕ) (v : Visit) → StandsAt (event_visits vs) n v → IsSyntax v.tree
event_syntax [] n v k = absurd (none_some v k)
event_syntax (w ∷ vs) n v k = go w.tree w.place w.before n k (λ m. event_syntax vs m v)
  where
    go : (b : Tree) (p : ℕ) (l : Local) (n : ℕ) → StandsAt (event_visits (record { place = p; tree = b; before = l } ∷ vs)) n v → ((m : ℕ) → StandsAt (event_visits vs) m v → IsSyntax v.tree) → IsSyntax v.tree
    go (Node (Event f) c d) p l zero k ih = subst (λ (x : Visit). IsSyntax x.tree) (some_injective k) refl
    go (Node (Event f) c d) p l (suc n) k ih = ih n k
    go b p l n k ih = ih n k

module _ (s : Scene) (i : Interpretation) (q : Correspondence) (a : Adversary) (t : Tape) where
  abbrev g : Setting
  g = setting_of s.declarations i

  abbrev vs : List Visit
  vs = visits_of_run g Events a s.game t

  abbrev es : List Happened
  es = (run g Events a s.game t).memory.events

  left_visit : (n : ℕ) (e : Happened) → e.event ≡ q.event → (v : Visit) → StandsAt (event_visits vs) n v → happening_at g v ≡ e ∷ [] → IsLeftVisit g q s.game vs n e
  left_visit n e same v stands executes =
      let m = visit_stands vs n v stands in
      go m.0 m.1 v.tree refl executes (AllByRecursion_slice_get (VisitHas (IsSubtreeOrList s.game)) vs (visits_subtrees g Events a s.game t) m.0 v m.1)
    where
      go : (m : ℕ) → StandsAt vs m v → (b : Tree) → v.tree ≡ b → happening g b v.before ≡ e ∷ [] → VisitHas (IsSubtreeOrList s.game) v → IsLeftVisit g q s.game vs n e
      go m among (Node (Event f) b c) is x placed =
          let counts : IsSyntax v.tree = subst IsSyntax (sym is) refl in
          let own : record { event = f; values = values_here g v.before b } ≡ e = cc in
          let one : f ≡ q.event = ap (λ (d : Happened). d.event) own ∙ same in
          record {
            visit = v;
            stands = stands;
            executes = executes;
            number = m;
            among = among;
            counts = counts;
            arguments = b;
            next = c;
            there = placed counts ∙ ap Some (is ∙ ap (λ f. Node (Event f) b c) one);
          }
      go m among b is x placed = absurd (no_event e x)

module _ (s : Scene) (ready : IsReady s.declarations s.game) (i : Interpretation) (model : Satisfies s.declarations i) (names : (p : ℕ) (Γ : Context) → stands_at s.game p ≡ Some Γ → IsFine s.declarations s.game Γ) (behind : (y : ℕ) → AllByRecursion (IsBehind s.game) (sites_of s.game y))
    (q : Correspondence) (inj : q.inj ≡ true) (parts : Tree) (accepted : AreParts s q (left_places s q) parts) (a : Adversary) (t : Tape)
    (reached : AreReachedInPairs s i (run (setting_of s.declarations i) Events a s.game t).memory (visits_of_run (setting_of s.declarations i) Events a s.game t))
    (hold : HoldInPairs s i (run (setting_of s.declarations i) Events a s.game t).memory (visits_of_run (setting_of s.declarations i) Events a s.game t))
    (derives : AllByRecursion (HoldAtVisit s i) (visits_of_run (setting_of s.declarations i) Events a s.game t))
    (met : (place : ℕ) (entry : Tree) → IsEntry s q place entry → AreMetBy (setting_of s.declarations i) q (visits_of_run (setting_of s.declarations i) Events a s.game t) (run (setting_of s.declarations i) Events a s.game t).memory.events place entry)
    (happened : (n : ℕ) (e : Happened) → StandsAt (run (setting_of s.declarations i) Events a s.game t).memory.events n e → (v : Visit) × StandsAt (event_visits (visits_of_run (setting_of s.declarations i) Events a s.game t)) n v × (happening_at (setting_of s.declarations i) v ≡ e ∷ []))
    (apart : AreApart (distinct_in (behind_entries (left_places s q) parts)) (run (setting_of s.declarations i) Events a s.game t).memory.store (run (setting_of s.declarations i) Events a s.game t).memory.store) where
  abbrev k : ℕ
  k = raise_of s parts

  abbrev last : Memory
  last = (run (g s i q a t) Events a s.game t).memory

  abbrev Left : ℕ → Happened → Type 0
  Left n e = IsLeftVisit (g s i q a t) q s.game (vs s i q a t) n e

  abbrev entry : ℕ → Tree
  entry p = entry_at (left_places s q) parts p

  left_of : (n : ℕ) (e : Happened) → IsLeftAt q (es s i q a t) n e → Left n e
  left_of n e l = let h = happened n e l.0 in left_visit s i q a t n e l.1 h.0 h.1 h.2

  among : (n : ℕ) (e : Happened) (l : Left n e) → IsAmong l.visit.place (left_places s q)
  among n e l = place_among s.game l.visit.place q.event l.arguments l.next l.there

  entered : (n : ℕ) (e : Happened) (l : Left n e) → IsEntry s q l.visit.place (entry l.visit.place)
  entered n e l = entry_stands s q (left_places s q) parts accepted.entries l.visit.place (among n e l)

  holds_here : (n : ℕ) (e : Happened) (l : Left n e) → HoldAtVisit s i l.visit
  holds_here n e l = AllByRecursion_slice_get (HoldAtVisit s i) (vs s i q a t) derives l.number l.visit l.among

  is_met : (n : ℕ) (e : Happened) (l : Left n e) → e.event ≡ q.event → IsMetBy (g s i q a t) q (IsExecuted (vs s i q a t) (es s i q a t)) l.visit.before e (entry l.visit.place)
  is_met n e l same = met l.visit.place (entry l.visit.place) (entered n e l) n l.visit l.stands refl e l.executes same

  -- its entry has routes

  not_never : (n : ℕ) (e : Happened) (l : Left n e) (number by f : Tree) → entry l.visit.place ≡ Node AtEntry number (Node NeverEntry by f) → ⊥
  unfolding lines_of statements
  not_never n e l number by f is =
      let z : IsEntry s q l.visit.place (Node AtEntry number (Node NeverEntry by f)) = subst (IsEntry s q l.visit.place) is (entered n e l) in
      let d : Proves s l.visit.place (record { by = by; targets = falsity }) = z.claims.0 in
      no_false (g s i q a t) l.visit.before.indices l.visit.before.memory.store
      (ends_hold (IsTrue (g s i q a t) l.visit.before.indices l.visit.before.memory.store l.visit.before.memory.store) (statements (lines_of by)) (statements (lines_of falsity)) d.end ((holds_here n e l l.counts).0 by d.right)).0

  routes_here : (n : ℕ) (e : Happened) (l : Left n e) → IsRouted (entry l.visit.place) l.visit.place
  routes_here n e l = go (kind_of s q l.visit.place (entry l.visit.place) (entered n e l))
    where
      go : Kind l.visit.place (entry l.visit.place) → IsRouted (entry l.visit.place) l.visit.place
      go (never number by f is) = absurd (not_never n e l number by f is)
      go (routed r) = r

  -- the atoms of its alternative, with their routes

  abbrev atoms_at : (place : ℕ) → List (ℕ × Atom)
  atoms_at p = entry_atoms q (entry p)

  abbrev route : (place number : ℕ) → Tree
  route p m = item_at (entry_routes (entry p)) m

  -- where the route of an atom ends
  ends_here : (n : ℕ) (e : Happened) (l : Left n e) (m c : ℕ) (mark : Bool) (f : ℕ) (ms : Tree) → StandsAt (atoms_at l.visit.place) m (c, RightEvent mark f ms) → (u : List ℕ)
      → IsFront u (route_tuple (g s i q a t) l.visit.before (route l.visit.place m)) → length u ≡ length (replications_at s (route_place (route l.visit.place m))) → RouteEnds s i l.visit.place l.visit.before.indices last.store (route l.visit.place m) u
  ends_here n e l m c mark f ms at u front long =
      let r = routes_here n e l in
      let z : IsEntry s q l.visit.place (Node AtEntry r.number (Node WithEntry r.witnesses (choice_of (entry l.visit.place)))) = subst (IsEntry s q l.visit.place) r.is (entered n e l) in
      let b = and_parts (is_number l.visit.place r.number) _ z.form in
      let c = and_parts (are_for q.variables (arguments_at s.game l.visit.place)) _ b.1 in
      let d = and_parts (have_types (sight_at s l.visit.place) q.others r.witnesses) _ c.1 in
      let h = and_parts (is_some (chosen q.alternatives (choice_of (entry l.visit.place)))) _ d.1 in
      let o = route_at s l.visit.place (at_place s q l.visit.place r.witnesses) (atoms_at l.visit.place) (entry_routes (entry l.visit.place)) h.1 z.claims m _ at in
      route_ends s ready i names behind a t l.number l.visit l.among l.counts (holds_here n e l) u (at_place s q l.visit.place r.witnesses) mark f ms (route l.visit.place m) o.0 o.1 front long

  -- two left events that have a right event of one atom at one position

  module _ (n j : ℕ) (d e : Happened) (v : Left n d) (w : Left j e) (m b c f h : ℕ) (ms ns : Tree) (at : StandsAt (atoms_at v.visit.place) m (c, RightEvent true f ms)) (to : StandsAt (atoms_at w.visit.place) b (c, RightEvent true h ns)) where
    one_left : v.visit.place ≤ w.visit.place → (u : List ℕ) → RouteEnds s i v.visit.place v.visit.before.indices last.store (route v.visit.place m) u → RouteEnds s i w.visit.place w.visit.before.indices last.store (route w.visit.place b) u
        → route_place (route v.visit.place m) ≡ route_place (route w.visit.place b) → n ≡ j
    one_left l u x y same =
        let node : (x.end.node == y.end.node) ≡ true = eq-eqb x.end.node y.end.node (x.there ∙ same ∙ sym y.there) in
        let first = end_among s (atoms_at v.visit.place) (entry_routes (entry v.visit.place)) m c f ms at x.end x.is in
        let second = end_among s (atoms_at w.visit.place) (entry_routes (entry w.visit.place)) b c h ns to y.end y.is in
        let need = is_needed s k q v.visit.place w.visit.place (entry_ends s q (entry v.visit.place)) (entry_ends s q (entry w.visit.place)) c x.end y.end first second node in
        let listed : IsAmong need.needed (needed_among s k (ends_in s q parts)) = among_needed s k q 0 (left_places s q) (size s.game) parts (game_ascends q.event s.game) v.visit.place w.visit.place (among n d v) (among j e w) l (routes_here n d v) (routes_here j e w) need.needed need.among in
        let needed : IsAmong need.needed (needed_pairs s k q parts) = subst (λ b. IsAmong need.needed (cond b (needed_among s k (ends_in s q parts)) [])) (sym inj) listed in
        let proof = pair_proved s k (distinct_in (behind_entries (left_places s q) parts)) (needed_pairs s k q parts) _ accepted.rest.pairs need.needed needed in
        let one = told s ready i model names behind a t reached hold v.number w.number v.visit w.visit v.among w.among v.counts w.counts (holds_here n d v) (holds_here j e w) k (raised_above s parts v.visit.place) q.event q.event v.arguments v.next w.arguments w.next v.there w.there
        l need.needed (distinct_in (behind_entries (left_places s q) parts)) proof need.first need.second x.end y.end u x.ends y.ends need.given apart in
        event_position (g s i q a t) Events a s.game t n j v.visit w.visit v.stands w.stands one.0 one.1

  -- a right event that was executed where a route leads to, by the copies there

  abbrev Executed : Visit → Tree → Happened → Type 0
  Executed v route d = IsExecuted (vs s i q a t) (es s i q a t) (route_place route) (route_tuple (g s i q a t) v.before route) d

  executed_long : (v : Visit) (route : Tree) (d : Happened) (x : Executed v route d) → length (tuple x.visit.before.indices) ≡ length (replications_at s (route_place route))
  executed_long v route d x =
      let z = visit_stands (vs s i q a t) x.position x.visit x.stands in
      let h = holds_at s ready i a t z.0 x.visit z.1 in
      let counts : IsSyntax x.visit.tree = event_syntax (vs s i q a t) x.position x.visit x.stands in
      let known : known_at s.game x.visit.place ≡ Some h.above = stands_known s.game x.visit.place h.phrase h.above x.visit.tree counts h.stands in
      visit_long s.declarations (g s i q a t) Events a s.game t refl (game_context s.declarations s.game ready.formed) z.0 x.visit z.1 counts h.above known
      ∙ ap (λ o. length (replications_by o)) (sym known) ∙ ap (λ p. length (replications_at s p)) x.there

  same_left : (n j : ℕ) (d e : Happened) (v : Left n d) (w : Left j e) (m b c f h : ℕ) (ms ns : Tree) → StandsAt (atoms_at v.visit.place) m (c, RightEvent true f ms) → StandsAt (atoms_at w.visit.place) b (c, RightEvent true h ns) → (y z : Happened)
      → (x : Executed v.visit (route v.visit.place m) y) (o : Executed w.visit (route w.visit.place b) z) → x.position ≡ o.position → n ≡ j
  same_left n j d e v w m b c f h ms ns at to y z x o same = go (nat_lt w.visit.place v.visit.place) refl
    where
      visit : x.visit ≡ o.visit
      visit = some_injective (sym x.stands ∙ (ap (slice_get (event_visits (vs s i q a t))) same ∙ o.stands))

      u : List ℕ
      u = tuple x.visit.before.indices

      there : route_place (route v.visit.place m) ≡ route_place (route w.visit.place b)
      there = sym x.there ∙ (ap (λ (z : Visit). z.place) visit ∙ o.there)

      first : RouteEnds s i v.visit.place v.visit.before.indices last.store (route v.visit.place m) u
      first = ends_here n d v m c true f ms at u x.front (executed_long v.visit (route v.visit.place m) y x)

      second : RouteEnds s i w.visit.place w.visit.before.indices last.store (route w.visit.place b) u
      second =
          subst (λ (z : Visit). RouteEnds s i w.visit.place w.visit.before.indices last.store (route w.visit.place b) (tuple z.before.indices)) (sym visit)
          (ends_here j e w b c true h ns to (tuple o.visit.before.indices) o.front (executed_long w.visit (route w.visit.place b) z o))

      go : (b : Bool) → nat_lt w.visit.place v.visit.place ≡ b → n ≡ j
      go false z = one_left n j d e v w m b c f h ms ns at to (ltb-false w.visit.place v.visit.place z) u first second there
      go true z =
          let less : w.visit.place < v.visit.place = ltb-true w.visit.place v.visit.place z in
          let most : w.visit.place ≤ v.visit.place = omega arith in
          sym (one_left j n e d w v b m c h f ns ms to at most u second first (sym there))

  -- the choice, by the left event at a position, if there is one

  abbrev AtPosition : ℕ → Type 0
  AtPosition n = ((e : Happened) × IsLeftAt q (es s i q a t) n e) ⊎ ((e : Happened) → IsLeftAt q (es s i q a t) n e → ⊥)

  find_left : (n : ℕ) → AtPosition n
  find_left n = go (slice_get (es s i q a t) n) refl
    where
      test : (e : Happened) → slice_get (es s i q a t) n ≡ Some e → (b : Bool) → (e.event == q.event) ≡ b → AtPosition n
      test e k true z = inl (e, (k, eqb-true e.event q.event z))
      test e k false z = inr (λ d l. both_ways _ z (eq-eqb e.event q.event (ap (λ (x : Happened). x.event) (some_injective (sym k ∙ l.0)) ∙ l.1)))

      go : (o : Option Happened) → slice_get (es s i q a t) n ≡ o → AtPosition n
      go None k = inr (λ d l. none_some d (sym k ∙ l.0))
      go (Some e) k = test e k (e.event == q.event) refl

  abbrev alternative_with : (n : ℕ) (e : Happened) → IsLeftAt q (es s i q a t) n e → List (ℕ × Atom)
  alternative_with n e l = atoms_at (left_of n e l).visit.place

  abbrev alternative_at : (n : ℕ) → AtPosition n → List (ℕ × Atom)
  alternative_at n (inl z) = alternative_with n z.0 z.1
  alternative_at n (inr f) = []

  abbrev others_with : (n : ℕ) (e : Happened) → IsLeftAt q (es s i q a t) n e → List ℕ
  others_with n e l = values_here (g s i q a t) (left_of n e l).visit.before (witnesses_of (entry (left_of n e l).visit.place))

  abbrev others_at : (n : ℕ) → AtPosition n → List ℕ
  others_at n (inl z) = others_with n z.0 z.1
  others_at n (inr f) = []

  abbrev position_with : (n : ℕ) (e : Happened) (l : IsLeftAt q (es s i q a t) n e) (m : ℕ) (o : Option (ℕ × Atom)) → slice_get (alternative_with n e l) m ≡ o → ℕ
  position_with n e l m None p = 0
  position_with n e l m (Some (c, RightTerm b)) p = 0
  position_with n e l m (Some (c, RightEvent mark f ms)) p = ((is_met n e (left_of n e l) l.1).hold m c (RightEvent mark f ms) p).position

  abbrev position_at : (n : ℕ) → AtPosition n → ℕ → ℕ
  position_at n (inl z) m = position_with n z.0 z.1 m (slice_get (alternative_with n z.0 z.1) m) refl
  position_at n (inr f) m = 0

  abbrev choice : Choice
  choice = record { alternative = λ n. alternative_at n (find_left n); others = λ n. others_at n (find_left n); position = λ n m. position_at n (find_left n) m }

  held : (n : ℕ) (e : Happened) (l : IsLeftAt q (es s i q a t) n e) (m : ℕ) (d : ℕ × Atom) (p : slice_get (alternative_with n e l) m ≡ Some d) → HoldsWith (g s i q a t) (es s i q a t) (query_values q e (others_with n e l)) (position_with n e l m (Some d) p) d.1
  held n e l m (c, RightEvent true f ms) p = ((is_met n e (left_of n e l) l.1).hold m c (RightEvent true f ms) p).executed
  held n e l m (c, RightEvent false f ms) p =
      let x = (is_met n e (left_of n e l) l.1).hold m c (RightEvent false f ms) p in
      slice_contains (es s i q a t) x.position (right_event (g s i q a t) (query_values q e (others_with n e l)) f ms) x.executed
  held n e l m (c, RightTerm b) p = (is_met n e (left_of n e l) l.1).hold m c (RightTerm b) p

  held_with : (n : ℕ) (e : Happened) (l : IsLeftAt q (es s i q a t) n e) (m : ℕ) (d : ℕ × Atom) (o : Option (ℕ × Atom)) (p : slice_get (alternative_with n e l) m ≡ o) → o ≡ Some d → HoldsWith (g s i q a t) (es s i q a t) (query_values q e (others_with n e l)) (position_with n e l m o p) d.1
  held_with n e l m d None p x = absurd (none_some d x)
  held_with n e l m d (Some b) p x = subst (λ (d : ℕ × Atom). HoldsWith (g s i q a t) (es s i q a t) (query_values q e (others_with n e l)) (position_with n e l m (Some b) p) d.1) (some_injective x) (held n e l m b p)

  -- of a marked atom its position is that of a right event where its route leads to
  executed_with : (n : ℕ) (e : Happened) (l : IsLeftAt q (es s i q a t) n e) (m c f : ℕ) (ms : Tree) → StandsAt (alternative_with n e l) m (c, RightEvent true f ms)
      → (d : Happened) × (x : Executed (left_of n e l).visit (route (left_of n e l).visit.place m) d) × (position_with n e l m (slice_get (alternative_with n e l) m) refl ≡ x.position)
  executed_with n e l m c f ms at = go (slice_get (alternative_with n e l) m) refl at
    where
      go : (o : Option (ℕ × Atom)) (p : slice_get (alternative_with n e l) m ≡ o) → o ≡ Some (c, RightEvent true f ms)
          → (d : Happened) × (x : Executed (left_of n e l).visit (route (left_of n e l).visit.place m) d) × (position_with n e l m o p ≡ x.position)
      go None p x = absurd (none_some (c, RightEvent true f ms) x)
      go (Some (h, RightTerm b)) p x = absurd (no_term h c f ms b x)
      go (Some (h, RightEvent mark y hs)) p x = (right_event (g s i q a t) (query_values q e (others_with n e l)) y hs, (is_met n e (left_of n e l) l.1).hold m h (RightEvent mark y hs) p, refl)

  one_position : (n j : ℕ) (z : AtPosition n) (y : AtPosition j) (d e : Happened) → IsLeftAt q (es s i q a t) n d → IsLeftAt q (es s i q a t) j e
      → (m b c : ℕ) → IsMarkedAt (alternative_at n z) m c → IsMarkedAt (alternative_at j y) b c → position_at n z m ≡ position_at j y b → n ≡ j
  one_position n j (inr x) y d e l o m b c at to same = absurd (x d l)
  one_position n j (inl z) (inr x) d e l o m b c at to same = absurd (x e o)
  one_position n j (inl z) (inl y) d e l o m b c at to same =
      let u = executed_with n z.0 z.1 m c at.event at.arguments at.stands in
      let w = executed_with j y.0 y.1 b c to.event to.arguments to.stands in
      same_left n j z.0 y.0 (left_of n z.0 z.1) (left_of j y.0 y.1) m b c at.event to.event at.arguments to.arguments at.stands to.stands u.0 w.0 u.1 w.1 (sym u.2 ∙ (same ∙ w.2))

  pub has_matching : HasMatching (setting_of s.declarations i) q (run (setting_of s.declarations i) Events a s.game t).memory.events
  has_matching = (
    choice,
    record {
      are_alternatives = λ n e l. alternatives_at n (find_left n) e l;
      are_values = λ n e l. values_at n (find_left n) e l;
      hold = λ n e l m c atom x. held_at n (find_left n) e l m c atom x;
      injective = λ n j d e l o m b c x y same. one_position n j (find_left n) (find_left j) d e l o m b c x y same;
    },
  )
    where
      alternatives_at : (n : ℕ) (z : AtPosition n) (e : Happened) → IsLeftAt q (es s i q a t) n e → Contains q.alternatives (alternative_at n z)
      alternatives_at n (inl z) e l = (is_met n z.0 (left_of n z.0 z.1) z.1.1).is_alternative
      alternatives_at n (inr f) e l = absurd (f e l)

      values_at : (n : ℕ) (z : AtPosition n) (e : Happened) → IsLeftAt q (es s i q a t) n e → AreValues (g s i q a t) q.others (others_at n z)
      values_at n (inl z) e l = (is_met n z.0 (left_of n z.0 z.1) z.1.1).are_values
      values_at n (inr f) e l = absurd (f e l)

      held_at : (n : ℕ) (z : AtPosition n) (e : Happened) → IsLeftAt q (es s i q a t) n e → (m c : ℕ) (atom : Atom) → StandsAt (alternative_at n z) m (c, atom) → HoldsWith (g s i q a t) (es s i q a t) (query_values q e (others_at n z)) (position_at n z m) atom
      held_at n (inr f) e l m c atom at = absurd (f e l)
      held_at n (inl z) e l m c atom at =
          subst (λ d. HoldsWith (g s i q a t) (es s i q a t) (query_values q d (others_with n z.0 z.1)) (position_at n (inl z) m) atom) (some_injective (sym z.1.0 ∙ l.0))
          (held_with n z.0 z.1 m (c, atom) (slice_get (alternative_with n z.0 z.1) m) refl at)
