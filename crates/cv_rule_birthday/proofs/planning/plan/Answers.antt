use Rattle.std.proofs.Common.{ap, arith, length, refl, subst, sym, ◌∙◌, Some}
use Rattle.cv_syntax.specs.Declarations.{declarations}
use Rattle.cv_syntax.specs.PoolTrees.{tree_at}
use Rattle.cv_scope_rules.specs.typing.Signature.{variable_in}
use Rattle.cv_scene_view.specs.Kept.{scene_of}
use Rattle.cv_steps.specs.Costs.{cost_of}
use Rattle.cv_costs.specs.Collisions.{one_for_pairs}
use Rattle.cv_costs.specs.Copies.{parameters_by}
use Rattle.cv_costs.proofs.Copies.{few_parameters}
use Rattle.cv_rule_birthday.specs.Chosen.{IsChosen}
use Rattle.cv_rule_birthday.proofs.Planned.{planned}
use Rattle.cv_rule_birthday.proofs.planning.plan.Goals as goal

pub cost_of_pairs-requires : goal.cost_of_pairs-requires
cost_of_pairs-requires c =
    let w = c.args.work.now in
    let game = tree_at w.pool.trees (Some c.args.game) in
    let same = ap length (c.as_slice.ensures.value ∙ (c.in_ok-parameters.ensures ∙ ap (λ A. parameters_by (variable_in A c.args.x)) c.requires.arrays)) in
    omega (arith, same, few_parameters (declarations w.pool.trees w.decls.list) game c.args.x c.requires.formed.scoped)

pub returns : goal.returns
returns c =
    let w = c.args.work.now in
    let trees = w.pool.trees in
    let s = scene_of w.pool w.decls c.args.game in
    let ps = c.args.places.now in
    let T = c.in-Ok.of_type in
    let parameters = c.as_slice.ensures.value ∙ (c.in_ok-parameters.ensures ∙ ap (λ A. parameters_by (variable_in A c.args.x)) c.requires.arrays) in
    planned trees s c.args.x ps T c.in_ok-parts.parts _ (sym c.stands.ensures ∙ c.if-not-stands.false) c.requires.small c.requires.formed.phrase
    (subst (IsChosen s c.args.x ps) c.in-Ok.is c.chosen_type.ensures) c.in_ok-parts.ensures.stack c.in_ok-parts.ensures.made c.in_ok-parts.ensures.live refl
    (c.in_ok-cost_of_pairs.ensures trees ∙ ap (λ ns. cost_of (one_for_pairs s.declarations ns T)) parameters)
