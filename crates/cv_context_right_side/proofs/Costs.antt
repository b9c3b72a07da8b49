-- What a reduction to a right game costs.
use Rattle.std.proofs.Common.{◌≡◌, ℕ, sym, arith}
use Rattle.cv_meaning.specs.Advantage.{IsAsked, chance_of}
use Rattle.cv_meaning.specs.Chances.{AtMost, Chance, Same, distance}
use Rattle.cv_meaning.specs.Experiments.{Experiment, mode_of}
use Rattle.cv_meaning.specs.Interpretation.{Interpretation, setting_of}
use Rattle.cv_meaning.specs.Runs.{Adversary}
use Rattle.cv_meaning.specs.Tapes.{blank}
use Rattle.cv_meaning.specs.contexts.ContextAdvantage.{context_advantage}
use Rattle.cv_meaning_chances.proofs.FractionLaws.{distance_kept}
use Rattle.cv_meaning.specs.Queries.{queries_in}
use Rattle.cv_typing_runs.specs.Games.{HasArguments}
use Rattle.cv_scene.specs.Reductions.{Reduction, context_of_game, in_game}
use Rattle.cv_context_left_side.specs.refusals.Reducible.{IsReducible}
use Rattle.cv_context_left_side.proofs.refusals.Whole.{apt_game, apt_test}
use Rattle.cv_context_left_side.proofs.cells.Chances as left
use Rattle.cv_inline.specs.NextGame.{next_of}
use Rattle.cv_inline_laws.specs.draws.DrawnNames.{drawn_in}
use Rattle.cv_inline_laws.specs.runs.Contexts.{IsAskedAlike}
use Rattle.cv_inline_names_laws.specs.drawn.Named.{NamedContext, names_of, text_of}
use Rattle.cv_context_right_side.specs.Right.{IsRightGame}
use Rattle.cv_context_right_side.proofs.Equality as right

other_way : (p q : Chance) → Same p q → Same q p
other_way p q e = sym e

at_most : (p q : Chance) → Same p q → AtMost p q
at_most p q e = omega (arith, e)

pub costs : (r : Reduction) (c : NamedContext) (types : ℕ → ℕ) (i : Interpretation) (x : Experiment) (a : Adversary) → IsReducible r → HasArguments r.scene.declarations → IsRightGame r c types → c.g ≡ setting_of r.scene.declarations i → IsAsked (queries_in r.scene.declarations) x
    → IsAskedAlike (text_of c blank blank) (mode_of x)
    → AtMost (distance (chance_of (in_game r i) x a r.scene.game) (chance_of (setting_of r.scene.declarations i) x a (next_of (context_of_game r) r.key (drawn_in (names_of c))))) (context_advantage r.scene.declarations i (context_of_game r) x a)
costs r c types i x a fine arguments named setting asked alike =
    at_most _ _ (distance_kept _ _ _ _
    (left.equal_chances r (record { arguments = arguments; typed = fine.typed; names = fine.names; answered = fine.allowed; apt = apt_game r fine }) i x a (apt_test r fine x asked))
    (other_way _ _ (right.equal_chances r c types named i setting x a alike)))
