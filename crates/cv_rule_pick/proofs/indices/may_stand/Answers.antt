use Rattle.std.proofs.Common.{ap, ap₂, ◌∙◌}
use Rattle.cv_syntax.specs.Declarations.{declarations}
use Rattle.cv_syntax_trees.specs.declared.sites.sort.Sort.TheVariants.{BelowParameter}
use Rattle.cv_scope_rules.specs.typing.Signature as signature
use Rattle.cv_scope_rules.specs.typing.Signature.{Above, sort_of}
use Rattle.cv_scene.specs.Terms.{is_sort}
use Rattle.cv_syntax.specs.PoolTrees.{tree_at}
use Rattle.cv_scene_view.specs.Kept.{scene_of}
use Rattle.cv_scope.specs.Held.{names_held}
use Rattle.cv_rule_pick.proofs.Standing.{both_hold, scope_there}
use Rattle.cv_rule_pick.proofs.indices.may_stand.Goals as goal

pub returns : goal.returns
returns c =
    let trees = c.args.work.now.pool.trees in
    let s = scene_of c.args.work.now.pool c.args.work.now.decls c.args.game in
    let ds = declarations trees c.args.work.now.decls.list in
    let sorted =
    c.is_below.ensures ∙ ap (λ o. is_sort o (BelowParameter c.args.parameter)) (c.sort_of_term-sort.ensures ∙ ap₂ (λ (A : signature.Arrays) (f : Above). sort_of (record { declarations = ds; arrays = A }) f (tree_at trees c.args.term)) c.requires.arrays c.in_ok-above.ensures) in
    both_hold _ _ c.is_below.result _ sorted c.if-not-is_below.false
    (scope_there s c.args.place (tree_at trees c.args.term) (names_held c.args.names.now) c.args.replications.now _ c.requires.there c.requires.names c.requires.replications c.in_ok-there.ensures)
