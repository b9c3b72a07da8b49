use Rattle.std.proofs.Common.{refl, subst}
use Rattle.cv_syntax_trees.specs.Tree.{Tree}
use Rattle.cv_meaning.specs.Advantage.{chance_of}
use Rattle.cv_meaning.specs.Chances.{AtMost, distance}
use Rattle.cv_meaning.specs.Experiments.{Breaks}
use Rattle.cv_meaning.specs.Interpretation.{setting_of}
use Rattle.cv_meaning.specs.contexts.ContextAdvantage.{context_advantage}
use Rattle.cv_scene.specs.Reductions.{context_of_game}
use Rattle.cv_context_right_side.proofs.Steps as steps
use Rattle.cv_context_right_side.proofs.Steps.{step_costs}
use Rattle.cv_context_right_side.specs.worked.Worked.{accepted_query, accepting, declarations, drawn_labels, drawn_names}
use Rattle.cv_context_right_side.proofs.worked.Drawn.{drawn, next_is}
use Rattle.cv_context_right_side.proofs.worked.Step.{asked, step}
use Rattle.cv_context_right_side.proofs.worked.worked_right_game.Goals as goal

pub returns-clause-step : goal.returns-clause-step
returns-clause-step c = step

pub returns-clause-drawn : goal.returns-clause-drawn
returns-clause-drawn c = drawn

pub returns-clause-next : goal.returns-clause-next
returns-clause-next c = next_is

pub returns-clause-right : goal.returns-clause-right
returns-clause-right c i = (steps.c accepting step i drawn_names drawn_labels drawn, steps.right accepting step i drawn_names drawn_labels drawn, refl)

pub returns-clause-costs : goal.returns-clause-costs
returns-clause-costs c i a =
    subst (λ (t : Tree). AtMost (distance (chance_of (setting_of declarations i) (Breaks accepted_query) a accepting.scene.game) (chance_of (setting_of declarations i) (Breaks accepted_query) a t)) (context_advantage declarations i (context_of_game accepting) (Breaks accepted_query) a))
    next_is (step_costs accepting step i drawn_names drawn_labels drawn (Breaks accepted_query) a asked)
