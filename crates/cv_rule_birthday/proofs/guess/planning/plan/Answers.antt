use Rattle.std.proofs.Common.{arith, refl, subst, sym, ◌∙◌}
use Rattle.cv_scene_view.specs.Kept.{scene_of}
use Rattle.cv_rule_birthday.specs.guess.Looks.{IsGuessed}
use Rattle.cv_rule_birthday.proofs.guess.Planned.{few, planned}
use Rattle.cv_rule_birthday.proofs.guess.planning.plan.Goals as goal

pub cost_of_guesses-requires-clause-few : goal.cost_of_guesses-requires-clause-few
cost_of_guesses-requires-clause-few c =
    let w = c.args.work.now in
    let s = scene_of w.pool w.decls c.args.game in
    omega (arith, c.requires.small, few s c.args.x c.args.places.now (sym c.stands.ensures ∙ c.if-not-stands.false))

pub returns : goal.returns
returns c =
    let w = c.args.work.now in
    let s = scene_of w.pool w.decls c.args.game in
    let x = c.args.x in
    let ps = c.args.places.now in
    planned s x ps w.pool.trees c.in-Ok.of_type c.in_ok-parts.parts _ (sym c.stands.ensures ∙ c.if-not-stands.false) c.requires.small c.requires.formed.phrase
    (subst (IsGuessed s x ps) c.in-Ok.is c.guessed_type.ensures) c.in_ok-parts.ensures.stack c.in_ok-parts.ensures.made c.in_ok-parts.ensures.live refl c.in_ok-cost_of_guesses.ensures
