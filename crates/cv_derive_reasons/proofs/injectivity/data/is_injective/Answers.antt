use Rattle.std.proofs.Common.{sym, ap, ◌∙◌}
use Rattle.std.specs.Prelude.{option_map}
use Rattle.cv_syntax.specs.Declarations.{declarations}
use Rattle.cv_syntax.specs.PoolTrees.{tree_at}
use Rattle.cv_derive_reasons.specs.inferences.Sides.{both_at}
use Rattle.cv_derive_reasons.proofs.injectivity.Injective.{injective_at, no_equation, no_inner}
use Rattle.cv_derive_reasons.proofs.injectivity.data.is_injective.Goals as goal

pub returns-in_default : goal.returns-in_default
returns-in_default c = λ s i.
    let trees = c.args.work.now.pool.trees in
    no_equation s (tree_at trees c.args.term) (sym (ap (option_map (both_at trees)) c.in_default.is) ∙ c.sides.ensures.sides)

pub returns-in_default-sides : goal.returns-in_default-sides
returns-in_default-sides c = λ s i.
    let trees = c.args.work.now.pool.trees in
    no_inner s (tree_at trees c.args.term) (tree_at trees c.in-Some.equation) (tree_at trees c.in-Some.right) (sym (ap (option_map (both_at trees)) c.in-Some.is) ∙ c.sides.ensures.sides) (sym (ap (option_map (both_at trees)) c.in_default-sides.is) ∙ c.sides-2.ensures.sides)

pub returns : goal.returns
returns c = λ s i.
    let trees = c.args.work.now.pool.trees in
    injective_at s (tree_at trees c.args.term) (tree_at trees c.in-Some.equation) (tree_at trees c.in-Some.right) (sym (ap (option_map (both_at trees)) c.in-Some.is) ∙ c.sides.ensures.sides) (tree_at trees c.in-Some-sides.left) (tree_at trees c.in-Some-sides.other) (sym (ap (option_map (both_at trees)) c.in-Some-sides.is) ∙ c.sides-2.ensures.sides) (declarations trees c.args.work.now.decls.list) i c.are_equal_exactly_by.result c.are_equal_exactly_by.ensures
