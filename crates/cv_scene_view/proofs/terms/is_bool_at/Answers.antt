use Rattle.std.proofs.Common.{Some, ap₂, ap, ◌∙◌}
use Rattle.cv_syntax.specs.Declarations.{declarations}
use Rattle.cv_syntax.specs.PoolTrees.{tree_at}
use Rattle.cv_scope_rules.specs.typing.Signature.{Above, boolean, sort_of}
use Rattle.cv_scope_rules.specs.typing.Signature as signature
use Rattle.cv_scene.specs.Terms.{is_sort}
use Rattle.cv_scene_view.proofs.terms.is_bool_at.Goals as goal

pub returns : goal.returns
returns c =
    let trees = c.args.work.now.pool.trees in
    let ds = declarations trees c.args.work.now.decls.list in
    c.is_boolean.ensures ∙ ap (λ o. is_sort o boolean) (c.sort_of_term-sort.ensures ∙ ap₂ (λ (A : signature.Arrays) (f : Above). sort_of (record { declarations = ds; arrays = A }) f (tree_at trees (Some c.args.term))) c.requires.arrays c.in_ok-above.ensures)
