-- So each choice and test has a value in each game of a sequence: no asked experiment tests a new name.
use Rattle.std.proofs.Common.{◌≡◌, ℕ, ◌==◌, true, false, not, refl, arith}
use Rattle.std.proofs.lemmas.Bool.{and_parts, not-true}
use Rattle.cv_syntax_trees.specs.Tree.{Tree}
use Rattle.cv_meaning.specs.Interpretation.{Interpretation, setting_of}
use Rattle.cv_meaning.specs.Runs.{Mode, Events, Random, Real}
use Rattle.cv_meaning.specs.Experiments.{Experiment, mode_of}
use Rattle.cv_meaning.specs.Advantage.{IsAsked}
use Rattle.cv_meaning.specs.Queries.{queries_in}
use Rattle.cv_meaning.specs.Satisfies.{Satisfies}
use Rattle.cv_meaning_chances.specs.unread.Dropping.{IsUntested}
use Rattle.cv_meaning_chances.specs.values.Values.{HasValuesIn, is_tested}
use Rattle.cv_scope_rules.specs.Phrases.{Inputs, is_phrase}
use Rattle.cv_scene.specs.Scenes.{KnowsQueries, Scene, is_new}
use Rattle.cv_derive_laws.specs.stores.Steps.{IsSound}
use Rattle.cv_steps.specs.Changes.{only}
use Rattle.cv_steps.specs.Judgements.{Accepted, judgement_of}
use Rattle.cv_steps.specs.Steps.{Cost, Step}
use Rattle.cv_steps_laws.proofs.Keeping.{unqueried}
use Rattle.cv_steps_laws.proofs.Unnamed.{asked_untested}
use Rattle.cv_syntax_trees.proofs.lists.Tests.{differ_comm}

untested : (y : ℕ) (m : Mode) → IsUntested (only y) m → is_tested m y ≡ false
untested y Events e = refl
untested y (Real one x) e = differ_comm x y e
untested y (Random one x) e = differ_comm x y e

new_untested : (s : Scene) (x : Experiment) → IsAsked (queries_in s.declarations) x → KnowsQueries s → (y : ℕ) → is_new s y ≡ true → is_tested (mode_of x) y ≡ false
new_untested s x asked k y n = untested y (mode_of x) (asked_untested s y x asked (unqueried s y k (not-true _ (and_parts (not (s.known y)) _ n).0)))

pub next_values : (s : Scene) (step : Step) (next : Tree) (cost : Cost) → IsSound step → KnowsQueries s → is_phrase Inputs s.game ≡ true → (i : Interpretation) → Satisfies s.declarations i → (x : Experiment) → IsAsked (queries_in s.declarations) x
    → HasValuesIn (setting_of s.declarations i) (mode_of x) s.game → judgement_of s step ≡ Accepted next cost → HasValuesIn (setting_of s.declarations i) (mode_of x) next
next_values s step next cost sound k w i sat x asked v e = sound.valued s next cost w i sat (mode_of x) (new_untested s x asked k) v e
