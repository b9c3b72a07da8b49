-- The games before and behind a cryptographic step have the chances of its context with the left and with the right side.
use Rattle.std.proofs.Common.{ℕ, List, refl, sym}
use Rattle.cv_meaning.specs.Advantage.{IsAsked, chance_of}
use Rattle.cv_meaning.specs.Chances.{Same}
use Rattle.cv_meaning.specs.Experiments.{Experiment}
use Rattle.cv_meaning.specs.Interpretation.{Interpretation, setting_of}
use Rattle.cv_meaning.specs.Queries.{queries_in}
use Rattle.cv_meaning.specs.Runs.{Adversary}
use Rattle.cv_meaning.specs.contexts.ContextAdvantage.{context_chance}
use Rattle.cv_meaning.specs.contexts.Groups.{Left, Right}
use Rattle.cv_scene.specs.Reductions.{Reduction, context_of_game}
use Rattle.cv_match_laws.specs.answers.Drawn.{AreDrawnFor, next_game}
use Rattle.cv_context_left_side.proofs.refusals.Whole.{apt_game, apt_test}
use Rattle.cv_context_left_side.proofs.cells.Chances as left
use Rattle.cv_context_right_side.specs.Right.{IsStepOfFile}
use Rattle.cv_context_right_side.proofs.Equality as right
use Rattle.cv_context_right_side.proofs.Steps as step

module _ (r : Reduction) (h : IsStepOfFile r) (i : Interpretation) (x : Experiment) (a : Adversary) (asked : IsAsked (queries_in r.scene.declarations) x) where
  pub left_side : Same (chance_of (setting_of r.scene.declarations i) x a r.scene.game) (context_chance r.scene.declarations i (context_of_game r) Left x a)
  left_side = left.equal_chances r (record { arguments = h.arguments; typed = h.reducible.typed; names = h.reducible.names; answered = h.reducible.allowed; apt = apt_game r h.reducible }) i x a (apt_test r h.reducible x asked)

  pub right_side : (names labels : List ℕ) → AreDrawnFor r names labels → Same (chance_of (setting_of r.scene.declarations i) x a (next_game r names labels)) (context_chance r.scene.declarations i (context_of_game r) Right x a)
  right_side names labels d = sym (right.equal_chances r (step.c r h i names labels d) _ (step.right r h i names labels d) i refl x a (step.alike r h i names labels d x asked))
