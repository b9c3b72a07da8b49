-- So an accepted injective correspondence is kept on each tape on which the values differ that its certificate takes to differ.
use Rattle.std.proofs.Common.{◌≡◌, ◌↔◌, ℕ, true, false, List, [], ◌∷◌, Some, sym, subst}
use Rattle.std.specs.Prelude.{MatchBool}
use Rattle.std.specs.List.{AllByRecursion}
use Rattle.cv_syntax_trees.specs.declared.head.Head.TheVariants.{EventsCertificate}
use Rattle.cv_syntax_trees.specs.Tree.{Tree, Node}
use Rattle.cv_meaning.specs.Interpretation.{Interpretation, Setting, setting_of}
use Rattle.cv_meaning.specs.Memory.{Happened, Memory}
use Rattle.cv_meaning.specs.Satisfies.{Satisfies}
use Rattle.cv_meaning.specs.Tapes.{Tape}
use Rattle.cv_meaning.specs.Runs.{Adversary, Events}
use Rattle.cv_meaning.specs.Experiments.{run, visits_of_run}
use Rattle.cv_meaning.specs.Serving.{Visit}
use Rattle.cv_meaning.specs.Correspondences.{Correspondence, broken, correspondence_of}
use Rattle.cv_meaning_laws.specs.adequacy.Broken.{AllMet, HasMatching, IsKept, StandsAt}
use Rattle.cv_meaning_chances.specs.Tests.{some_equal}
use Rattle.cv_syntax_trees.specs.sites.Sites.{Variable, first_site}
use Rattle.cv_scope_rules.specs.Behind.{sites_of}
use Rattle.cv_typing_runs.proofs.Games.{typed}
use Rattle.cv_derive_facts.specs.Definitions.{IsBehind}
use Rattle.cv_scene.specs.Scenes.{Scene, has_news_alone}
use Rattle.cv_derive_laws.specs.reached.Copies.{AreReachedInPairs, HoldInPairs}
use Rattle.cv_derive_laws.specs.stores.Holding.{HoldAtVisit}
use Rattle.cv_derive_laws.proofs.reached.Walks.{places_fine}
use Rattle.cv_query_certificates.specs.Accepted.{AreParts, IsEntry, IsEventsProof}
use Rattle.cv_query_certificates.specs.Forms.{left_places}
use Rattle.cv_query_certificates.specs.PairParts.{behind_entries, distinct_in}
use Rattle.cv_query_laws.specs.correspondences.Happenings.{happening_at}
use Rattle.cv_query_laws.specs.correspondences.Premises.{IsProved}
use Rattle.cv_query_laws.specs.routes.Ends.{AreMetBy}
use Rattle.cv_query_laws.specs.visits.Events.{event_visits}
use Rattle.cv_query_laws.proofs.correspondences.Closing.{events_proof}
use Rattle.cv_rule_birthday_laws.specs.chosen.Drawn.{AreDrawn, choices_of}
use Rattle.cv_query_injections.specs.Differing.{AllDiffer, Differ}
use Rattle.cv_query_injections.proofs.matching.Chosen.{has_matching}
use Rattle.cv_query_injections.proofs.matching.Differing.{all_apart, distinct_behind}

module _ (s : Scene) (query certificate : Tree) (proved : IsProved s query certificate) (inj : (correspondence_of query).inj ≡ true) (i : Interpretation) (model : Satisfies s.declarations i) (behind : (y : ℕ) → AllByRecursion (IsBehind s.game) (sites_of s.game y)) (a : Adversary) (t : Tape)
    (says : (es : List Happened) → (broken (setting_of s.declarations i) (correspondence_of query) es ≡ false) ↔ IsKept (setting_of s.declarations i) (correspondence_of query) es)
    (happened : (n : ℕ) (e : Happened) → StandsAt (run (setting_of s.declarations i) Events a s.game t).memory.events n e → (v : Visit) × StandsAt (event_visits (visits_of_run (setting_of s.declarations i) Events a s.game t)) n v × (happening_at (setting_of s.declarations i) v ≡ e ∷ []))
    (drawn : (x : ℕ) (v : Variable) → has_news_alone x s.game ≡ true → first_site x [] s.game ≡ Some v → AreDrawn (setting_of s.declarations i) x v.parameters t (run (setting_of s.declarations i) Events a s.game t).memory.store)
    (one_tuple : (x : ℕ) (parameters : List ℕ) → AreDrawn (setting_of s.declarations i) x parameters t (run (setting_of s.declarations i) Events a s.game t).memory.store → some_equal (choices_of (setting_of s.declarations i) x parameters) t ≡ false
    → (u w : List ℕ) (v : ℕ) → (run (setting_of s.declarations i) Events a s.game t).memory.store x u ≡ Some v → (run (setting_of s.declarations i) Events a s.game t).memory.store x w ≡ Some v → u ≡ w) where
  abbrev g : Setting
  g = setting_of s.declarations i

  abbrev q : Correspondence
  q = correspondence_of query

  abbrev last : Memory
  last = (run g Events a s.game t).memory

  abbrev vs : List Visit
  vs = visits_of_run g Events a s.game t

  module _ (reached : AreReachedInPairs s i last vs) (hold : HoldInPairs s i last vs) (derives : AllByRecursion (HoldAtVisit s i) vs) (met : (place : ℕ) (entry : Tree) → IsEntry s q place entry → AreMetBy g q vs last.events place entry) where
    matched : (parts : Tree) → AreParts s q (left_places s q) parts → AllByRecursion (Differ s i t) (distinct_in (behind_entries (left_places s q) parts)) → HasMatching g q last.events
    matched parts accepted differ =
        has_matching s proved.ready i model
        (places_fine s.declarations s.game proved.ready.formed.phrase (typed s.declarations s.game proved.ready.arguments proved.ready.formed proved.ready.typed proved.ready.names) proved.ready.cells)
        behind q inj parts accepted a t reached hold derives met happened
        (all_apart s i t last.store drawn one_tuple (distinct_in (behind_entries (left_places s q) parts)) [] accepted.rest.distinct differ)

    matched_by : (certificate : Tree) → IsEventsProof s q certificate → AllDiffer s i certificate t → HasMatching g q last.events
    matched_by (Node EventsCertificate parts e) accepted differ = matched parts accepted (subst (AllByRecursion (Differ s i t)) (distinct_behind s q (left_places s q) parts accepted) differ)
    matched_by certificate accepted differ = absurd accepted

    pub kept : AllDiffer s i certificate t → broken g q last.events ≡ false
    kept differ =
        (says last.events).1
        (subst (λ b. MatchBool b (HasMatching g q last.events) (AllMet g q last.events)) (sym inj) (matched_by certificate (events_proof s query certificate proved.correspondence proved.accepted.proof) differ))
