use Rattle.cv_meaning.specs.contexts.Groups.{Right}
use Rattle.cv_group_rules.specs.Rules.{functions_in}
use Rattle.cv_inline.specs.bodies.Inlining.{Inlining}
use Rattle.cv_inline.specs.NextGame.{Calling, callers_of, callings_of}
use Rattle.cv_meaning.specs.contexts.Groups.{side_group}
use Rattle.cv_inline_laws.specs.draws.DrawnNames.{names_of_draws}
use Rattle.cv_inline_names_laws.specs.accepted.Drawn.{IsDrawnFor}
use Rattle.cv_inline_names_laws.specs.covered.Covered.{HasDraws}
use Rattle.cv_inline_names_laws.proofs.covered.Functions.{all_callings, drawn_for}
use Rattle.cv_inline_names_laws.proofs.covered.accepted_bodies_have_their_draws.Goals as goal

pub returns : goal.returns
returns c symbols k names labels role accepted side right bare =
    all_callings (λ (l : Calling). (p : Inlining) → HasDraws symbols.constant (names_of_draws (side_group Right k.equivalence) (callings_of k) names labels role) (callings_of k) l p → IsDrawnFor symbols.constant (functions_in Right k.equivalence) l.function p (callers_of (callings_of k)))
    (callings_of k) (drawn_for symbols k.equivalence k.game k.functions names labels role accepted side right bare)
