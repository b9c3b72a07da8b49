-- The right events that an entry's routes name were executed by visits.
use Rattle.std.proofs.Common.{◌≡◌, ℕ, ◌+◌, ◌<◌, ◌≤◌, Bool, true, false, cond, ◌==◌, List, [], ◌∷◌, ◌++◌, map, Some, refl, sym, ap, ap₂, subst, ◌∙◌, arith}
use Rattle.std.specs.Prelude.{slice_get}
use Rattle.std.proofs.lemmas.Bool.{both_ways}
use Rattle.std.proofs.lemmas.List.Elements.{All-weaker}
use Rattle.std.specs.List.{All, AllByRecursion}
use Rattle.cv_syntax_trees.specs.declared.head.Head.{Head}
use Rattle.cv_syntax_trees.specs.declared.head.Head.TheVariants.{Branch, Call, Event, In, Key, Let, New}
use Rattle.cv_syntax.specs.Layouts.{IsSyntax}
use Rattle.cv_syntax_trees.specs.Tree.{Tree, Empty, Node, first, size}
use Rattle.cv_meaning.specs.Tapes.{Tape, blank}
use Rattle.cv_meaning.specs.Cells.{cells}
use Rattle.cv_meaning.specs.Correspondences.{Correspondence, correspondence_of}
use Rattle.cv_meaning.specs.Interpretation.{Interpretation, Setting, setting_of}
use Rattle.cv_meaning.specs.Memory.{Happened, Indices, Store, tuple}
use Rattle.cv_meaning.specs.Runs.{Adversary, Events, State}
use Rattle.cv_meaning.specs.Satisfies.{Satisfies}
use Rattle.cv_meaning.specs.Serving.{Visit}
use Rattle.cv_meaning.specs.Terms.{found_in, values, values_here}
use Rattle.cv_meaning.specs.Experiments.{coins_on, run, visits_of_run}
use Rattle.cv_meaning_laws.specs.adequacy.Broken.{StandsAt}
use Rattle.cv_meaning_laws.specs.adequacy.Counted.{tapes_of}
use Rattle.cv_meaning_runs.specs.Placed.{IsSubtreeOrList, VisitHas}
use Rattle.cv_meaning_runs.proofs.Placed.{visits_subtrees}
use Rattle.cv_scope_rules.specs.Behind.{sites_of}
use Rattle.cv_scope_rules.specs.Context.{Context}
use Rattle.cv_scope_rules.specs.Made.{made_at, made_by}
use Rattle.cv_scope_rules.specs.Phrases.{Body, Phrase, oracle_parts}
use Rattle.cv_scope_rules.specs.Scope.{is_variable}
use Rattle.cv_scope_rules.specs.Sites.{Variable}
use Rattle.cv_scope_runs.specs.Promises.{GrowsTo, after_site}
use Rattle.cv_scope_runs.specs.Reads.{IsKept}
use Rattle.cv_scope_runs.proofs.Contexts.{Matches, constant_none, variable_none}
use Rattle.cv_scope_runs.proofs.FactsRuns.{well_game}
use Rattle.cv_scope_runs.proofs.Games.{Game, has_parts, stands_phrase}
use Rattle.cv_scope_runs.proofs.PathRuns.{SiteHolds, terms_read}
use Rattle.cv_scope_runs.proofs.Plain.{game_context}
use Rattle.cv_scope_runs.proofs.ServeRuns.{VisitHolds, game_holds}
use Rattle.cv_scope_runs.proofs.Standing.{Stands, in_first, stands_definition, stands_known}
use Rattle.cv_scope_runs.proofs.TermsLater.{AllReadable, Extends, store_extends, values_kept}
use Rattle.cv_derive_laws.proofs.Substitution.{names_of}
use Rattle.cv_derive_laws.proofs.reached.Reached.{index_names}
use Rattle.cv_derive_laws.specs.stores.Holding.{HoldAtVisit, IsReady}
use Rattle.cv_derive_laws.specs.stores.Reached.{HasTypes}
use Rattle.cv_derive_laws.specs.stores.Soundness.{DerivationsHold}
use Rattle.cv_derive_laws.specs.stores.Truth.{IsTrue}
use Rattle.cv_scene.specs.lines.Lines.{lines_of, statements}
use Rattle.cv_scene.specs.Scenes.{Scene, or_empty}
use Rattle.cv_query.specs.kinds.Closed.{IsClosedQuery}
use Rattle.cv_query_certificates.specs.Accepted.{IsEntry, Proves}
use Rattle.cv_query_certificates.specs.EventNodes.{arguments_at}
use Rattle.cv_syntax_trees.proofs.lists.Options.{AllByRecursion_slice_get, none_some}
use Rattle.cv_query_laws.specs.correspondences.Happenings.{happening, happening_at}
use Rattle.cv_query_laws.specs.correspondences.Premises.{is_correspondence}
use Rattle.cv_query_laws.specs.routes.Ends.{AreMetBy, IsExecuted, IsMetBy}
use Rattle.cv_query_laws.specs.visits.Events.{event_visits, is_event}
use Rattle.cv_query_laws.specs.visits.Visited.{IsFront, HasVisitAbove}
use Rattle.cv_query_laws.proofs.correspondences.Behind.{EventNode}
use Rattle.cv_query_laws.proofs.correspondences.Closing.{both_all}
use Rattle.cv_query_laws.proofs.correspondences.Meeting.{ExecutesAbove, ExecutesBehind, IsThere, above_event, entry_met_by, event_of, maker_counts, site_event}
use Rattle.cv_query_laws.proofs.correspondences.Naming.{closed_named}
use Rattle.cv_query_laws.proofs.correspondences.Sites.{only_definition}
use Rattle.cv_query_laws.proofs.visits.Above.{was_visited}
use Rattle.cv_query_laws.proofs.visits.Assigned.{assigned_at}
use Rattle.cv_query_laws.proofs.visits.OneBody.{tuple_front}
use Rattle.cv_query_laws.proofs.visits.Positions.{event_stands, executed_at, run_events, visit_stands}

-- indices

front_found : (at more : Indices) (x v : ℕ) → found_in at x ≡ Some v → found_in (at ++ more) x ≡ Some v
front_found [] more x v e = absurd (none_some v e)
front_found (p ∷ at) more x v e = go (p.0 == x) e (front_found at more x v)
  where
    go : (b : Bool) → cond b (Some p.1) (found_in at x) ≡ Some v → (found_in at x ≡ Some v → found_in (at ++ more) x ≡ Some v) → cond b (Some p.1) (found_in (at ++ more) x) ≡ Some v
    go true k ih = k
    go false k ih = ih k

-- indices with the same names and values are the same
same_pairs : (xs ys : Indices) → names_of xs ≡ names_of ys → tuple xs ≡ tuple ys → xs ≡ ys
same_pairs [] [] e f = refl
same_pairs [] (y ∷ ys) e f = absurd (cc)
same_pairs (x ∷ xs) [] e f = absurd (cc)
same_pairs (x ∷ xs) (y ∷ ys) e f =
    let e0 : x.0 ≡ y.0 = cc in
    let e1 : names_of xs ≡ names_of ys = cc in
    let f0 : x.1 ≡ y.1 = cc in
    let f1 : tuple xs ≡ tuple ys = cc in
    ap₂ (λ (p : ℕ × ℕ) (ps : Indices). p ∷ ps) (λ j. (e0 j, f0 j)) (same_pairs xs ys e1 f1)

-- behind a definition the replications are those above it
site_replications : (h : Head) (a b : Tree) (Γ : Context) (x : ℕ) → made_by h a (Variable x) ≡ true → (after_site h a b Γ).replications ≡ Γ.replications
site_replications (New y T) a b Γ x e = refl
site_replications (Let y T) a b Γ x e = refl
site_replications (Key y) a b Γ x e = refl
site_replications (Call y l) a b Γ x e = refl
site_replications (In c) a b Γ x e = refl
site_replications Branch a (Node h cells (Node k c body)) Γ x e = refl
site_replications Branch a (Node h cells Empty) Γ x e = refl
site_replications Branch a Empty Γ x e = refl
site_replications h a b Γ x e = absurd (both_ways _ refl e)

-- an event's node is of a body
event_body : (σ : Phrase) (f : ℕ) (q : Phrase × Phrase) → oracle_parts σ (Event f) ≡ Some q → σ ≡ Body
event_body Body f q e = refl
event_body σ f q e = absurd (none_some q e)

module _ (s : Scene) (ready : IsReady s.declarations s.game) (i : Interpretation) (a : Adversary) (t : Tape) where
  abbrev g : Setting
  g = setting_of s.declarations i

  abbrev variable : ℕ → Bool
  variable = is_variable s.game

  abbrev vs : List Visit
  vs = visits_of_run g Events a s.game t

  abbrev last : State
  last = run g Events a s.game t

  pub fine : Game g variable s.game
  fine = well_game s.declarations g s.game refl (game_context s.declarations s.game ready.formed)

  all_hold : AllByRecursion (VisitHolds g variable s.game fine) vs
  unfolding visits_of_run
  all_hold = (game_holds g variable s.game fine Events (a.next (coins_on t 0 a.coins)) t a.moves).passes.visits

  all_grow : AllByRecursion (λ (v : Visit). GrowsTo v.before.memory last.memory) vs
  unfolding run visits_of_run
  all_grow = (game_holds g variable s.game fine Events (a.next (coins_on t 0 a.coins)) t a.moves).passes.before

  pub holds_at : (n : ℕ) (v : Visit) → StandsAt vs n v → VisitHolds g variable s.game fine v
  holds_at n v k = AllByRecursion_slice_get (VisitHolds g variable s.game fine) vs all_hold n v k

  pub grows_at : (n : ℕ) (v : Visit) → StandsAt vs n v → GrowsTo v.before.memory last.memory
  grows_at n v k = AllByRecursion_slice_get (λ (v : Visit). GrowsTo v.before.memory last.memory) vs all_grow n v k

  -- what an event's arguments read is assigned at its visit
  event_reads : (z : Visit) → VisitHolds g variable s.game fine z → (f : ℕ) (b next : Tree) → z.tree ≡ Node (Event f) b next → AllReadable g variable z.before.indices z.before.memory.store b
  event_reads z h f b next same =
      let st : Stands s.game z.place h.phrase h.above (Node (Event f) b next) = subst (Stands s.game z.place h.phrase h.above) same h.stands in
      let parts = has_parts h.phrase (Event f) b next (stands_phrase g variable s.game fine st) in
      let in_body : Stands s.game z.place Body h.above (Node (Event f) b next) = subst (λ σ. Stands s.game z.place σ h.above (Node (Event f) b next)) (event_body h.phrase f parts.0 parts.1) st in
      terms_read g variable s.game fine (in_first refl in_body) z.before.indices z.before.memory.store z.before.memory.events h.matches h.holds

  -- they have the same values below more replications
  module _ (at : Indices) (rs : List (ℕ × ℕ)) (matches : Matches g variable rs at) (m : Store) (kept : IsKept m last.memory.store) where
    same_values : (n : ℕ) (z : Visit) → StandsAt vs n z → IsFront z.before.indices at → (b : Tree) → AllReadable g variable z.before.indices z.before.memory.store b → AllReadable g variable at m b → values_here g z.before b ≡ values g at m b
    same_values n z k front b r q =
        sym (values_kept g variable z.before.indices z.before.memory.store at last.memory.store longer b r)
        ∙ values_kept g variable at m at last.memory.store (store_extends g variable at m last.memory.store kept) b q
      where
        longer : Extends g variable z.before.indices z.before.memory.store at last.memory.store
        longer = record {
          found = λ x v e. ap (λ is. found_in is x) front.1 ∙ front_found z.before.indices front.0 x v e;
          constants = λ x c e. constant_none g variable rs at matches x c;
          variables = λ x c e. variable_none g variable rs at matches x c;
          store = (grows_at n z k).store;
        }

    first_of_one : (d e : Happened) → d ∷ [] ≡ e ∷ [] → d ≡ e
    first_of_one d e k = cc

    executed : (n f : ℕ) (next : Tree) (q : ℕ) → AllReadable g variable at m (arguments_at s.game n) → HasVisitAbove g t vs n (Node (Event f) (arguments_at s.game n) next) q at → IsExecuted vs last.memory.events n (tuple at) (record { event = f; values = values g at m (arguments_at s.game n) })
    executed n f next q reads z =
        let b : Tree = arguments_at s.game n in
        let p = event_stands vs z.number z.visit z.stands (ap is_event z.same) in
        let e = executed_at g vs p.0 z.visit p.1 in
        let own : e.0 ≡ record { event = f; values = values_here g z.visit.before b } = first_of_one e.0 _ (sym e.2 ∙ ap (λ b. happening g b z.visit.before) z.same) in
        let there = same_values z.number z.visit z.stands z.front b (event_reads z.visit (holds_at z.number z.visit z.stands) f b next z.same) reads in
        record {
          position = p.0;
          visit = z.visit;
          stands = p.1;
          there = z.there;
          front = tuple_front z.visit.before.indices at z.front;
          executed = ap (λ es. slice_get es p.0) (run_events g Events a s.game t) ∙ e.1 ∙ ap Some (own ∙ ap (λ us. record { event = f; values = us }) there);
        }

  -- above a visit, and behind the definition of a cell

  event_size : (f : ℕ) (b next : Tree) → size (Node (Event f) b next) ≡ 1 + size b + size next
  unfolding size
  event_size f b next = refl

  -- the visit of the event's node above a visit
  pub event_above : (number : ℕ) (v : Visit) → StandsAt vs number v → IsSyntax v.tree → (f n : ℕ) (ms : Tree) → (node : EventNode s.game f ms n v.place) → HasVisitAbove g t vs n (Node (Event f) (arguments_at s.game n) node.next) v.place v.before.indices
  event_above number v k w f n ms node =
      let b : Tree = arguments_at s.game n in
      let whole = event_size f b node.next in
      let from : n + 1 + size b ≤ v.place = node.from in
      let to : v.place < n + 1 + size b + size node.next = node.to in
      was_visited g Events a s.game t number v k w n (Event f) b node.next node.stands refl refl (let l : n ≤ v.place = omega arith in l) (let l : v.place < n + size (Node (Event f) b node.next) = omega arith in l)

  -- the visit that assigned a cell of a variable with one site
  record IsSited (z : Visit) (place : ℕ) (at : Indices) : Type 0 where
    there : z.place ≡ place
    same : z.before.indices ≡ at
    counts : IsSyntax z.tree

  module _ (x : ℕ) (u : List ℕ) (w : ℕ) (m : Store) (es : List Happened) (r : ℕ) (Δ : Context) (one : sites_of s.game x ≡ (r, Δ) ∷ []) (h : SiteHolds g variable s.game fine x u w m es) where
    site_at : (n : ℕ) (z : Visit) → StandsAt vs n z → made_at z.tree (Variable x) ≡ true → tuple z.before.indices ≡ u → IsSited z h.place h.indices
    site_at n z k made copy = go z.tree refl made
      where
        go : (b : Tree) → z.tree ≡ b → made_at b (Variable x) ≡ true → IsSited z h.place h.indices
        go Empty e o = absurd (both_ways _ refl o)
        go (Node d b c) e o =
            let y = holds_at n z k in
            let st : Stands s.game z.place y.phrase y.above (Node d b c) = subst (Stands s.game z.place y.phrase y.above) e y.stands in
            let mine = only_definition s.game x r Δ (z.place, after_site d b c y.above) one (stands_definition s.game x z.place y.phrase y.above d b c st o) in
            let its = only_definition s.game x r Δ (h.place, after_site h.head h.one h.two h.above) one (stands_definition s.game x h.place h.phrase h.above h.head h.one h.two h.stands h.defines) in
            let names : names_of z.before.indices ≡ names_of h.indices =
            index_names g z.before.indices y.above.replications y.matches.named
            ∙ ap (map (λ (p : ℕ × ℕ). p.0)) (sym (site_replications d b c y.above x o) ∙ sym mine.1 ∙ its.1)
            ∙ sym (index_names g h.indices (after_site h.head h.one h.two h.above).replications h.matches.named) in
            record { there = mine.0 ∙ sym its.0; same = same_pairs z.before.indices h.indices names (copy ∙ sym h.at); counts = subst IsSyntax (sym e) (maker_counts d b x o) }

  abbrev pub ExecutionOfRun : (place : ℕ) → List ℕ → Happened → Type 0
  ExecutionOfRun = IsExecuted vs last.memory.events

  module _ (q : Correspondence) (model : Satisfies s.declarations i) (number : ℕ) (v : Visit) (k : StandsAt vs number v) (counts : IsSyntax v.tree) (there : IsThere s i fine v.place v.before)
      (true_at : (by targets : Tree) → Proves s v.place (record { by = by; targets = targets }) → AllByRecursion (IsTrue g v.before.indices v.before.memory.store v.before.memory.store) (statements (lines_of targets))) where
    abbrev m : Store
    m = v.before.memory.store

    kept : IsKept m last.memory.store
    kept = (grows_at number v k).store

    above : ExecutesAbove s i ready model fine q v.place v.before there true_at ExecutionOfRun
    above f n ms node =
        executed v.before.indices there.above.replications there.matches m kept n f node.next v.place
        (above_event s i ready model fine q v.place v.before there true_at f n ms node).readable (event_above number v k counts f n ms node)

    behind : ExecutesBehind s i ready model fine q v.place v.before there true_at ExecutionOfRun
    behind x u w assigned r Δ one h f n ms node =
        let d = assigned_at g Events a s.game t x u w (kept x u w assigned) in
        let y = site_at x u w m v.before.memory.events r Δ one h d.0 d.1 d.2 d.3 d.4 in
        let below : EventNode s.game f ms n d.1.place = subst (EventNode s.game f ms n) (sym y.there) node in
        let z = subst (HasVisitAbove g t vs n (Node (Event f) (arguments_at s.game n) below.next) d.1.place) y.same (event_above d.0 d.1 d.2 y.counts f n ms below) in
        subst (λ us. ExecutionOfRun n us (event_of s i ready model fine q v.place v.before there true_at f n h.indices)) h.at
        (executed h.indices (after_site h.head h.one h.two h.above).replications h.matches m kept n f below.next d.1.place (site_event s i ready model fine q v.place v.before there true_at x u w h f n ms node).readable z)

  -- at the visit of a left event

  no_event : (e : Happened) → ◌≡◌ {A = List Happened} [] (e ∷ []) → ⊥
  no_event e k = cc

  module _ (query : Tree) (correspondence : is_correspondence query ≡ true) (closed : IsClosedQuery s.declarations query) (sound : DerivationsHold s.declarations) (model : Satisfies s.declarations i) (derives : AllByRecursion (HoldAtVisit s i) vs) (typed : AllByRecursion (HasTypes s.declarations s.game i) vs) where
    abbrev q : Correspondence
    q = correspondence_of query

    pub met_by_visits : (entry : Tree) (number : ℕ) (v : Visit) → StandsAt (event_visits vs) number v → IsEntry s q v.place entry → (e : Happened) → happening_at g v ≡ e ∷ [] → e.event ≡ q.event → IsMetBy g q ExecutionOfRun v.before e entry
    met_by_visits entry number v k entered e x same =
        let n = visit_stands vs number v k in
        go (holds_at n.0 v n.1) n.0 n.1 v.tree refl x
      where
        go : VisitHolds g variable s.game fine v → (n : ℕ) → StandsAt vs n v → (b : Tree) → v.tree ≡ b → happening g b v.before ≡ e ∷ [] → IsMetBy g q ExecutionOfRun v.before e entry
        go h n o (Node (Event f) b c) here z =
            let w : IsSyntax v.tree = subst IsSyntax (sym here) refl in
            let there : IsThere s i fine v.place v.before =
            record { above = h.above; known = stands_known s.game v.place h.phrase h.above v.tree w h.stands; matches = h.matches; holds = h.holds; stores = h.stores; types = AllByRecursion_slice_get (HasTypes s.declarations s.game i) vs typed n v o } in
            let true_at = λ (by targets : Tree) (d : Proves s v.place (record { by = by; targets = targets })).
            sound.targets s i v.place v.before.indices v.before.memory.store v.before.memory.store by targets (AllByRecursion_slice_get (HoldAtVisit s i) vs derives n v o w).0 d in
            let own : record { event = f; values = values_here g v.before b } ≡ e = cc in
            let args : arguments_at s.game v.place ≡ b = ap (λ o. first (or_empty o)) (AllByRecursion_slice_get (VisitHas (IsSubtreeOrList s.game)) vs (visits_subtrees g Events a s.game t) n v o w) ∙ ap first here in
            let left : record { event = q.event; values = values_here g v.before (arguments_at s.game v.place) } ≡ e =
            (λ j. record { event = (sym same ∙ ap (λ (d : Happened). d.event) (sym own)) j; values = values_here g v.before (args j) }) ∙ own in
            subst (λ (d : Happened). IsMetBy g q ExecutionOfRun v.before d entry) left
            (entry_met_by s i ready model fine q v.place v.before there true_at ExecutionOfRun (above q model n v o w there true_at) (behind q model n v o w there true_at) entry (closed_named s.declarations query correspondence closed) entered)
        go h n o b here z = absurd (no_event e z)

module _ (s : Scene) (query : Tree) (ready : IsReady s.declarations s.game) (sound : DerivationsHold s.declarations) (correspondence : is_correspondence query ≡ true) (closed : IsClosedQuery s.declarations query) (i : Interpretation) (model : Satisfies s.declarations i) (a : Adversary) where
  pub all_met_by_visits : (place : ℕ) (entry : Tree) → IsEntry s (correspondence_of query) place entry → All (λ t. AllByRecursion (HasTypes s.declarations s.game i) (visits_of_run (setting_of s.declarations i) Events a s.game t)) (tapes_of (cells (setting_of s.declarations i) Events a s.game) blank)
      → All (λ t. AreMetBy (setting_of s.declarations i) (correspondence_of query) (visits_of_run (setting_of s.declarations i) Events a s.game t) (run (setting_of s.declarations i) Events a s.game t).memory.events place entry) (tapes_of (cells (setting_of s.declarations i) Events a s.game) blank)
  all_met_by_visits place entry entered typed =
      let g : Setting = setting_of s.declarations i in
      All-weaker (λ t. AllByRecursion (HoldAtVisit s i) (visits_of_run g Events a s.game t) × AllByRecursion (HasTypes s.declarations s.game i) (visits_of_run g Events a s.game t))
      (λ t. AreMetBy g (correspondence_of query) (visits_of_run g Events a s.game t) (run g Events a s.game t).memory.events place entry)
      (λ t h number v k there e x same. met_by_visits s ready i a t query correspondence closed sound model h.0 h.1 entry number v k (subst (λ p. IsEntry s (correspondence_of query) p entry) (sym there) entered) e x same)
      (tapes_of (cells g Events a s.game) blank)
      (both_all (λ t. AllByRecursion (HoldAtVisit s i) (visits_of_run g Events a s.game t)) (λ t. AllByRecursion (HasTypes s.declarations s.game i) (visits_of_run g Events a s.game t)) (tapes_of (cells g Events a s.game) blank)
      (sound.places s refl ready i model Events a) typed)
