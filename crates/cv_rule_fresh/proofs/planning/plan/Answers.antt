use Rattle.std.proofs.Common.{ℕ, ap, arith, length, map, refl, subst, sym, ◌∙◌, Some}
use Rattle.std.proofs.lemmas.List.{length-map}
use Rattle.cv_syntax.specs.Declarations.{declarations}
use Rattle.cv_syntax.specs.PoolTrees.{tree_at}
use Rattle.cv_scene_view.specs.Kept.{scene_of}
use Rattle.cv_scene.specs.Terms.{replications_at}
use Rattle.cv_steps.specs.Costs.{cost_of}
use Rattle.cv_costs.specs.Collisions.{one_for_each}
use Rattle.cv_rule_fresh.specs.collisions.Fresh.{fresh_row}
use Rattle.cv_rule_fresh.specs.Looks.{IsChosen}
use Rattle.cv_rule_fresh.proofs.Planned.{planned}
use Rattle.cv_rule_fresh.proofs.Ways.{few_above}
use Rattle.cv_rule_fresh.proofs.planning.plan.Goals as goal

pub cost_of_copies-requires : goal.cost_of_copies-requires
cost_of_copies-requires c =
    let w = c.args.work.now in
    let s = scene_of w.pool w.decls c.args.game in
    let rs = replications_at s c.in-Ok.choice.place in
    let same = ap length (c.as_slice-2.ensures.value ∙ (c.in_ok-parameters.ensures ∙ ap (map (λ (r : ℕ × ℕ). r.1)) (c.as_slice.ensures.value ∙ c.in_ok-replications.ensures))) in
    omega (arith, same, length-map rs (λ (r : ℕ × ℕ). r.1), few_above (declarations w.pool.trees w.decls.list) (tree_at w.pool.trees (Some c.args.game)) c.in-Ok.choice.place c.requires.formed.scoped)

pub returns : goal.returns
returns c =
    let w = c.args.work.now in
    let trees = w.pool.trees in
    let s = scene_of w.pool w.decls c.args.game in
    let ds = declarations trees w.decls.list in
    let choice = c.in-Ok.choice in
    let parameters = c.as_slice-2.ensures.value ∙ (c.in_ok-parameters.ensures ∙ ap (map (λ (r : ℕ × ℕ). r.1)) (c.as_slice.ensures.value ∙ c.in_ok-replications.ensures)) in
    planned trees s c.args.place choice c.in_ok-parts.parts _ (sym c.has_place.ensures ∙ c.if-not-has_place.false) c.requires.small
    (subst (IsChosen s c.args.place (fresh_row s c.args.place)) c.in-Ok.is c.in_ok-choice.ensures) c.in_ok-parts.ensures refl
    (c.in_ok-cost_of_copies.ensures trees ∙ ap (λ ps. cost_of (one_for_each ds ps choice.of_type)) parameters)
