-- On each tape within the listed cells no two copies have one draw: it agrees there with one that is counted, for which pairs say so.
use Rattle.std.proofs.Common.{◌≡◌, ℕ, false, List, sym, subst}
use Rattle.std.proofs.lemmas.List.Elements.{All-contains}
use Rattle.std.specs.List.{All}
use Rattle.cv_syntax_trees.specs.Tree.{Tree}
use Rattle.cv_meaning.specs.Tapes.{Tape, blank}
use Rattle.cv_meaning.specs.Interpretation.{Interpretation, Setting, setting_of}
use Rattle.cv_meaning.specs.Memory.{Indices, Memory}
use Rattle.cv_meaning.specs.Runs.{Adversary, Mode, Random}
use Rattle.cv_meaning.specs.Serving.{Visit}
use Rattle.cv_meaning.specs.Experiments.{run, visits_of_run}
use Rattle.cv_meaning_laws.specs.adequacy.Counted.{tapes_of}
use Rattle.cv_meaning_chances.specs.Tests.{IsWithin}
use Rattle.cv_meaning_chances.proofs.maps.ListedTapes.{each_contained}
use Rattle.cv_meaning_runs.proofs.Listed.{listed_same, no_keys_consulted}
use Rattle.cv_scope_rules.specs.Branches.{Pairs}
use Rattle.cv_scope_rules.specs.Made.{MakeApart}
use Rattle.cv_scope_rules.specs.Phrases.{Inputs}
use Rattle.cv_scope_rules.proofs.Plain.{phrase_plain}
use Rattle.cv_scope_runs.proofs.Plain.{plain_no_calls}
use Rattle.cv_steps.proofs.Testable.{local, testable}
use Rattle.cv_scene.specs.Scenes.{Scene}
use Rattle.cv_derive_laws.specs.reached.Copies.{AreReached, AreReachedInPairs, HoldInPairs, IsAbove}
use Rattle.cv_derive_laws.specs.stores.Holding.{IsReady}
use Rattle.cv_query_certificates.specs.Marks.{raise_of}
use Rattle.cv_query_certificates.specs.SecretPairs.{AreSecretPairs}
use Rattle.cv_query_secrets.proofs.sessions.Apart.{HaveValues, one_to_one}
use Rattle.cv_query_secrets.proofs.sessions.Exchange.{AreOneToOne}
use Rattle.cv_query_secrets.proofs.sessions.Links.{pairs_of}
use Rattle.cv_query_secrets.proofs.sessions.Simulated.{cs, links}

module _ (s : Scene) (x : ℕ) (parts : Tree) (ready : IsReady s.declarations s.game) (proved : AreSecretPairs s x parts) (i : Interpretation) (a : Adversary) where
  abbrev g : Setting
  g = setting_of s.declarations i

  abbrev mode : Mode
  mode = Random false x

  abbrev visits : Tape → List Visit
  visits t = visits_of_run g mode a s.game t

  abbrev end : Tape → Memory
  end t = (run g mode a s.game t).memory

  module _ (above : (place : ℕ) → IsAbove s place (raise_of s parts)) (reached : All (λ t. AreReachedInPairs s i (end t) (visits t)) (tapes_of (cs s x i a) blank)) (hold : All (λ t. HoldInPairs s i (end t) (visits t)) (tapes_of (cs s x i a) blank))
      (have : (p q k : ℕ) (at other : Indices) (y : Memory) → AreReached s i p q k at other y → HaveValues s i p q k at other y) (made : (t : Tape) → Pairs MakeApart (visits t)) where
    pub copies_apart : (t : Tape) → IsWithin (cs s x i a) t → AreOneToOne (links s x i a t)
    copies_apart t w =
        let u = each_contained (cs s x i a) blank t w in
        let same = (listed_same g mode a s.game t u.0 local (testable x Inputs s.game ready.formed.phrase) (no_keys_consulted g mode a s.game t (plain_no_calls s.game (phrase_plain Inputs s.game ready.formed.phrase))) u.2).visits in
        subst (λ vs. AreOneToOne (pairs_of g x vs)) (sym same)
        (one_to_one s x parts ready proved i mode a u.0 above (All-contains (λ t. AreReachedInPairs s i (end t) (visits t)) (tapes_of (cs s x i a) blank) u.0 reached u.1)
        (All-contains (λ t. HoldInPairs s i (end t) (visits t)) (tapes_of (cs s x i a) blank) u.0 hold u.1) (λ p q at other r. have p q (raise_of s parts) at other (end u.0) r) (made u.0))
