-- What a step keeps, wherever it is accepted: the only facts that the laws of sequences take from a step. This profile's own.
use Rattle.std.specs.Prelude.{◌≡◌, ℕ, true, false, List}
use Rattle.std.specs.List.{AllByRecursion}
use Rattle.cv_syntax_trees.specs.Tree.{Tree}
use Rattle.cv_meaning.specs.Interpretation.{Interpretation, setting_of}
use Rattle.cv_meaning.specs.Runs.{Mode}
use Rattle.cv_meaning.specs.Satisfies.{Satisfies}
use Rattle.cv_meaning_chances.specs.Fractions.{HasTapes}
use Rattle.cv_meaning_chances.specs.values.Values.{HasValuesIn, is_tested}
use Rattle.cv_scope_rules.specs.Phrases.{Inputs, is_phrase}
use Rattle.cv_typing_runs.specs.Games.{HasDeclaredSorts}
use Rattle.cv_scene.specs.Scenes.{KnowsQueries, Scene, is_new}
use Rattle.cv_scene.specs.Terms.{has_index}
use Rattle.cv_steps.specs.Judgements.{Accepted, judgement_of}
use Rattle.cv_steps.specs.Sequences.{Passage}
use Rattle.cv_steps.specs.Steps.{Cost, Step}
use Rattle.cv_derive_laws.specs.stores.Costs.{CostsAtMost, bound_of}
use Rattle.cv_derive_laws.specs.stores.Holding.{IsReady}
use Rattle.cv_derive_laws.specs.stores.Soundness.{DerivationsHold, DerivedBodiesAreUnreached}

-- In a ready game of a file whose derivations are sound, the chances of each experiment that a query asks for are in the next game what
-- they were, up to the cost, which has a value wherever types have values; the next game's types and parameters are declared, where
-- those of the game are; its choices and tests have values, where those of the game have and no new name is tested; and it binds no
-- index that the game has not.
pub record IsSound (x : Step) : Type 0 where
  pub keeps :
      (s : Scene) (next : Tree) (cost : Cost) → IsReady s.declarations s.game → DerivationsHold s.declarations → DerivedBodiesAreUnreached s.declarations
      → KnowsQueries s → judgement_of s x ≡ Accepted next cost → CostsAtMost s.declarations s.game next cost
  pub taped :
      (s : Scene) (next : Tree) (cost : Cost) → judgement_of s x ≡ Accepted next cost → (i : Interpretation) → Satisfies s.declarations i
      → HasTapes (bound_of i cost)
  pub declared :
      (s : Scene) (next : Tree) (cost : Cost) → is_phrase Inputs s.game ≡ true → HasDeclaredSorts s.declarations s.game
      → judgement_of s x ≡ Accepted next cost → HasDeclaredSorts s.declarations next
  pub valued :
      (s : Scene) (next : Tree) (cost : Cost) → is_phrase Inputs s.game ≡ true → (i : Interpretation) → Satisfies s.declarations i → (m : Mode)
      → ((y : ℕ) → is_new s y ≡ true → is_tested m y ≡ false) → HasValuesIn (setting_of s.declarations i) m s.game
      → judgement_of s x ≡ Accepted next cost → HasValuesIn (setting_of s.declarations i) m next
  pub bound :
      (s : Scene) (next : Tree) (cost : Cost) → judgement_of s x ≡ Accepted next cost
      → (i : ℕ) → has_index next i ≡ true → has_index s.game i ≡ true

-- so is each step of a sequence
abbrev pub AreSound : List Passage → Type 0
AreSound passages = AllByRecursion (λ p. IsSound p.step) passages
