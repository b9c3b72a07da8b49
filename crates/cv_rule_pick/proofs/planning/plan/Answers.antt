use Rattle.std.proofs.Common.{Some, [], ap, ltb-true, subst, sym, ◌∙◌, ◌∷◌}
use Rattle.cv_syntax_trees.specs.Tree.{size}
use Rattle.cv_syntax.specs.PoolTrees.{tree_at}
use Rattle.cv_syntax.proofs.Trees.{tree_at_None}
use Rattle.cv_scope_rules.specs.Context.{cells_of}
use Rattle.cv_scene_view.specs.Kept.{scene_of}
use Rattle.cv_rule_pick.specs.Looks.{arm_of}
use Rattle.cv_rule_pick.specs.Needs.{made_with}
use Rattle.cv_rule_pick.specs.Picking.{only_arm, with_terms}
use Rattle.cv_rule_pick.specs.Stages.{IsStage, derived_row, named_row}
use Rattle.cv_rule_pick.proofs.Planned.{none_there, planned}
use Rattle.cv_rule_pick.proofs.planning.plan.Goals as goal

pub returns-in_default : goal.returns-in_default
returns-in_default c =
    let trees = c.args.work.now.pool.trees in
    let s = scene_of c.args.work.now.pool c.args.work.now.decls c.args.game in
    none_there s c.args.place (tree_at trees c.args.terms) (tree_at trees c.args.by.at_body) (tree_at trees c.args.by.at_find) c.has_place.result c.in_ok-are_terms.field-0 c.has_place.ensures c.if-not-has_place.false c.in_ok-are_terms.ensures c.if-not-branch.false (sym c.in_default.ensures.part ∙ tree_at_None trees)
    ∙ ap Some (sym c.failed-in_default.ensures)

pub returns : goal.returns
returns c =
    let trees = c.args.work.now.pool.trees in
    let s = scene_of c.args.work.now.pool c.args.work.now.decls c.args.game in
    let p = c.args.place in
    let b = c.in-Some-only_branch.branch in
    let a = arm_of trees b in
    let ms = tree_at trees c.args.terms in
    let d = tree_at trees c.args.by.at_body in
    let e = tree_at trees c.args.by.at_find in
    let above = c.as_slice.ensures.value ∙ c.in_ok-above.ensures in
    planned s p ms d e c.has_place.result c.in_ok-are_terms.field-0 c.has_place.ensures c.if-not-has_place.false c.in_ok-are_terms.ensures c.if-not-branch.false a (ap only_arm (sym c.in-Some.ensures.part) ∙ sym c.in-Some-only_branch.ensures.branch) (sym c.in_ok-are_indices.ensures ∙ c.if-not-branch-2.false)
    (λ rest. subst (λ f. IsStage f (derived_row s p ms d e a rest) rest) c.in_default-2.is (c.in_ok-failure.ensures rest)) (λ rest. subst (λ f. IsStage f (named_row s p a rest) rest) c.in_default-3.is (c.in_ok-failure-2.ensures rest)) trees c.in_ok-parts.parts c.requires.small
    (ltb-true p (size (tree_at trees (Some c.args.game))) (sym c.has_place.ensures ∙ c.if-not-has_place.false)) (c.in_ok-parts.ensures.stack ∙ ap (λ rs. with_terms (cells_of rs (tree_at trees b.binders)) ms (tree_at trees b.body) ∷ []) above)
    (c.in_ok-parts.ensures.made ∙ ap (λ rs. made_with (cells_of rs (tree_at trees b.binders)) ms (tree_at trees b.body)) above) c.in_ok-parts.ensures.live
