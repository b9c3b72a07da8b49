-- A correspondence with an accepted certificate is broken on no tape that is counted.
use Rattle.std.proofs.Common.{◌≡◌, ◌↔◌, ℕ, zero, suc, ◌+◌, Bool, true, false, cond, not, List, [], ◌∷◌, inl, inr, Option, Some, None, refl, sym, ap, ap₂, subst, ◌∙◌, arith}
use Rattle.std.specs.Prelude.{MatchBool, slice_get}
use Rattle.std.proofs.lemmas.Bool.{both_ways, and_parts, not-true}
use Rattle.std.proofs.lemmas.List.Sums.{sum_by-cons}
use Rattle.std.proofs.lemmas.List.Elements.{All-cons, All-head, All-nil, All-tail, All-weaker}
use Rattle.std.specs.List.{All, AllByRecursion, count_by}
use Rattle.cv_syntax_trees.specs.declared.head.Head.TheVariants.{Event, EventsCertificate, Query}
use Rattle.cv_syntax_trees.specs.Tree.{Tree, Empty, Node, first, subtree}
use Rattle.cv_meaning.specs.Tapes.{Tape, blank, count}
use Rattle.cv_meaning.specs.Interpretation.{Interpretation, Setting, setting_of}
use Rattle.cv_meaning.specs.Memory.{Happened, Local}
use Rattle.cv_meaning.specs.Terms.{values_here}
use Rattle.cv_meaning.specs.Cells.{cells}
use Rattle.cv_meaning.specs.Chances.{AtMost, Chance, zero_chance}
use Rattle.cv_meaning.specs.Advantage.{advantage, chance_of}
use Rattle.cv_meaning.specs.Correspondences.{Correspondence, broken, correspondence_of}
use Rattle.cv_meaning.specs.Experiments.{Breaks, coins_on, holds_on, run, visits_of_run}
use Rattle.cv_meaning.specs.Runs.{Adversary, Events, State, start}
use Rattle.cv_meaning.specs.Satisfies.{Satisfies}
use Rattle.cv_meaning.specs.Serving.{Visit}
use Rattle.cv_meaning_laws.specs.adequacy.Broken.{AllMet, HasMatching, IsKept, IsMet}
use Rattle.cv_meaning_laws.specs.adequacy.Counted.{tapes_of}
use Rattle.cv_meaning_laws.proofs.adequacy.Counting.{count_is}
use Rattle.cv_meaning_runs.specs.Placed.{IsSubtreeOrList, VisitHas}
use Rattle.cv_meaning_runs.proofs.Placed.{visits_subtrees}
use Rattle.cv_scope_rules.specs.Scope.{is_variable}
use Rattle.cv_scope_runs.specs.Promises.{GrowsTo}
use Rattle.cv_scope_runs.proofs.FactsRuns.{well_game}
use Rattle.cv_scope_runs.proofs.Games.{Game}
use Rattle.cv_scope_runs.proofs.Plain.{game_context}
use Rattle.cv_scope_runs.proofs.ServeRuns.{VisitHolds, game_holds}
use Rattle.cv_scope_runs.proofs.Standing.{stands_known}
use Rattle.cv_derive_laws.specs.stores.Holding.{HoldAtVisit}
use Rattle.cv_derive_laws.specs.stores.Reached.{HasTypes}
use Rattle.cv_scene.specs.Scenes.{Scene, or_empty}
use Rattle.cv_query_certificates.specs.Accepted.{AreEntries, IsEntry, IsEventsProof, IsProofOf}
use Rattle.cv_query_certificates.specs.EventNodes.{arguments_at}
use Rattle.cv_query_certificates.specs.Forms.{left_places}
use Rattle.cv_query_laws.specs.correspondences.Happenings.{happening, happening_at, happenings}
use Rattle.cv_query_laws.specs.correspondences.Premises.{IsProved, is_correspondence}
use Rattle.cv_query_laws.proofs.correspondences.Behind.{IsAmong, place_among}
use Rattle.cv_query_laws.proofs.correspondences.Happening.{run_happens}
use Rattle.cv_query_laws.proofs.correspondences.Meeting.{entry_met}
use Rattle.cv_query_laws.proofs.correspondences.Naming.{closed_named}
use Rattle.cv_syntax_trees.proofs.lists.Each.{AllByRecursion_append}

all_at : {A : Type 0} (P : A → Type 0) (xs : List A) (n : ℕ) (x : A) → AllByRecursion P xs → slice_get xs n ≡ Some x → P x
all_at P [] n x a e = absurd (none e)
  where
    none : ◌≡◌ {A = Option _} None (Some x) → ⊥
    none k = cc
all_at P (y ∷ xs) zero x a e = let same : y ≡ x = cc in subst P same a.0
all_at P (y ∷ xs) (suc n) x a e = all_at P xs n x a.1 e

pub both_all : {A : Type 0} (P Q : A → Type 0) (xs : List A) → All P xs → All Q xs → All (λ x. P x × Q x) xs
both_all P Q [] a b = All-nil (λ x. P x × Q x)
both_all P Q (x ∷ xs) a b = All-cons (λ x. P x × Q x) x xs (All-head P x xs a, All-head Q x xs b) (both_all P Q xs (All-tail P x xs a) (All-tail Q x xs b))

module _ (s : Scene) (q : Correspondence) where
  entry_of : (p : ℕ) (ps : List ℕ) (parts : Tree) → AreEntries s q ps parts → IsAmong p ps → (entry : Tree) × IsEntry s q p entry
  entry_of p [] parts a i = absurd i
  entry_of p (k ∷ ps) Empty a i = absurd a
  entry_of p (k ∷ ps) (Node h entry more) a (inl e) = (entry, subst (λ k. IsEntry s q k entry) (sym e) a.0)
  entry_of p (k ∷ ps) (Node h entry more) a (inr i) = entry_of p ps more a.1 i

  pub place_entry : (p : ℕ) (certificate : Tree) → IsEventsProof s q certificate → IsAmong p (left_places s q) → (entry : Tree) × IsEntry s q p entry
  place_entry p (Node EventsCertificate parts e) a i = entry_of p (left_places s q) parts a.entries i
  place_entry p certificate a i = absurd a

pub events_proof : (s : Scene) (query certificate : Tree) → is_correspondence query ≡ true → IsProofOf s query certificate → IsEventsProof s (correspondence_of query) certificate
events_proof s (Node Query bs sides) certificate k p = p
events_proof s query certificate k p = absurd (both_ways _ refl k)

module _ (s : Scene) (query certificate : Tree) (proved : IsProved s query certificate) (i : Interpretation) (model : Satisfies s.declarations i) where
  abbrev g : Setting
  g = setting_of s.declarations i

  abbrev q : Correspondence
  q = correspondence_of query

  fine : Game g (is_variable s.game) s.game
  fine = well_game s.declarations g s.game refl (game_context s.declarations s.game proved.ready.formed)

  -- what holds at a visit
  record IsVisited (st : State) (v : Visit) : Type 0 where
    holds : VisitHolds g (is_variable s.game) s.game fine v
    grows : GrowsTo v.before.memory st.memory
    derives : HoldAtVisit s i v
    types : HasTypes s.declarations s.game i v
    tree : VisitHas (IsSubtreeOrList s.game) v

  abbrev IsFine : List Happened → Happened → Type 0
  IsFine es e = e.event ≡ q.event → IsMet g q es e

  visit_fine : (st : State) (v : Visit) → IsVisited st v → AllByRecursion (IsFine st.memory.events) (happening_at g v)
  visit_fine st v z = go v.tree v.before z.holds z.grows z.derives z.types z.tree
    where
      go : (t : Tree) (l : Local) → VisitHolds g (is_variable s.game) s.game fine (record { place = v.place; tree = t; before = l }) → GrowsTo l.memory st.memory → HoldAtVisit s i (record { place = v.place; tree = t; before = l })
          → HasTypes s.declarations s.game i (record { place = v.place; tree = t; before = l }) → IsSubtreeOrList s.game v.place t → AllByRecursion (IsFine st.memory.events) (happening g t l)
      go (Node (Event e) a b) l h grows derives types tree = (met, tt)
        where
          met : IsFine st.memory.events (record { event = e; values = values_here g l a })
          met same =
              let stands : subtree s.game v.place ≡ Some (Node (Event q.event) a b) = tree refl ∙ ap (λ e. Some (Node (Event e) a b)) same in
              let entry = place_entry s q v.place certificate (events_proof s query certificate proved.correspondence proved.accepted.proof) (place_among s.game v.place q.event a b stands) in
              let args : arguments_at s.game v.place ≡ a = ap (λ o. first (or_empty o)) (tree refl) in
              let r = entry_met s i proved.ready model fine q v.place l
              (record { above = h.above; known = stands_known s.game v.place h.phrase h.above (Node (Event e) a b) refl h.stands; matches = h.matches; holds = h.holds; stores = h.stores; types = types })
              (λ by targets d. proved.sound.targets s i v.place l.indices l.memory.store l.memory.store by targets (derives refl).0 d) st.memory.events grows.events entry.0 (closed_named s.declarations query proved.correspondence proved.closed) entry.1 in
              subst (λ (x : Happened). IsMet g q st.memory.events x) (λ j. record { event = sym same j; values = values_here g l (args j) }) r
      go t l h grows derives types tree = tt

  visits_fine : (st : State) (vs : List Visit) → AllByRecursion (VisitHolds g (is_variable s.game) s.game fine) vs → AllByRecursion (λ (v : Visit). GrowsTo v.before.memory st.memory) vs → AllByRecursion (HoldAtVisit s i) vs → AllByRecursion (HasTypes s.declarations s.game i) vs
      → AllByRecursion (VisitHas (IsSubtreeOrList s.game)) vs → AllByRecursion (IsFine st.memory.events) (happenings g vs)
  visits_fine st [] a b d e f = tt
  visits_fine st (v ∷ vs) a b d e f =
      AllByRecursion_append (IsFine st.memory.events) (happening_at g v) (happenings g vs) (visit_fine st v (record { holds = a.0; grows = b.0; derives = d.0; types = e.0; tree = f.0 }))
      (visits_fine st vs a.1 b.1 d.1 e.1 f.1)

  module _ (plain : q.inj ≡ false) (says : (es : List Happened) → (broken g q es ≡ false) ↔ IsKept g q es) (a : Adversary) where
    unbroken : (t : Tape) → AllByRecursion (HoldAtVisit s i) (visits_of_run g Events a s.game t) → AllByRecursion (HasTypes s.declarations s.game i) (visits_of_run g Events a s.game t) → broken g q (run g Events a s.game t).memory.events ≡ false
    unfolding run visits_of_run
    unbroken t derives types =
        let st : State = run g Events a s.game t in
        let z = game_holds g (is_variable s.game) s.game fine Events (a.next (coins_on t 0 a.coins)) t a.moves in
        let all = visits_fine st (visits_of_run g Events a s.game t) z.passes.visits z.passes.before derives types (visits_subtrees g Events a s.game t) in
        let here : AllByRecursion (IsFine st.memory.events) st.memory.events =
        subst (AllByRecursion (IsFine st.memory.events)) (sym (run_happens g Events (a.next (coins_on t 0 a.coins)) t a.moves (start g s.game))) all in
        (says st.memory.events).1
        (subst (λ b. MatchBool b (HasMatching g q st.memory.events) (AllMet g q st.memory.events)) (sym plain) (λ n e k. all_at (IsFine st.memory.events) st.memory.events n e here k.0 k.1))

    module _ (typed : All (λ t. AllByRecursion (HasTypes s.declarations s.game i) (visits_of_run g Events a s.game t)) (tapes_of (cells g Events a s.game) blank)) where
      pub never_broken : All (λ t. broken g q (run g Events a s.game t).memory.events ≡ false) (tapes_of (cells g Events a s.game) blank)
      never_broken =
          All-weaker (λ t. AllByRecursion (HoldAtVisit s i) (visits_of_run g Events a s.game t) × AllByRecursion (HasTypes s.declarations s.game i) (visits_of_run g Events a s.game t)) _
          (λ t h. unbroken t h.0 h.1) _
          (both_all (λ t. AllByRecursion (HoldAtVisit s i) (visits_of_run g Events a s.game t)) (λ t. AllByRecursion (HasTypes s.declarations s.game i) (visits_of_run g Events a s.game t)) _
          (proved.sound.places s refl proved.ready i model Events a) typed)

      none_counted : (p : Tape → Bool) (ts : List Tape) → All (λ t. p t ≡ false) ts → count_by p ts ≡ 0
      none_counted p [] e = refl
      none_counted p (t ∷ ts) e =
          sum_by-cons (λ u. cond (p u) 1 0) t ts ∙ ap₂ (λ b n. cond b 1 0 + n) (All-head (λ u. p u ≡ false) t ts e) (none_counted p ts (All-tail (λ u. p u ≡ false) t ts e))

      pub no_chance : AtMost (chance_of g (Breaks query) a s.game) zero_chance
      unfolding chance_of holds_on
      no_chance =
          let e : count (cells g Events a s.game) (holds_on g (Breaks query) a s.game) blank ≡ 0 = count_is (cells g Events a s.game) (holds_on g (Breaks query) a s.game) blank ∙ none_counted (holds_on g (Breaks query) a s.game) (tapes_of (cells g Events a s.game) blank) never_broken in
          omega arith

pub as_advantage : (g : Setting) (query : Tree) (a : Adversary) (game : Tree) (bound : Chance) → is_correspondence query ≡ true → AtMost (chance_of g (Breaks query) a game) bound → AtMost (advantage g query a game) bound
as_advantage g (Node Query bs sides) a game bound b e = e
as_advantage g query a game bound b e = absurd (both_ways _ refl b)
