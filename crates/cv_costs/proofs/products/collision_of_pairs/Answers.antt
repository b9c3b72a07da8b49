use Rattle.std.proofs.Common.{◌≡◌, true, subst, ◌∙◌}
use Rattle.std.specs.Prelude.{IfOk}
use Rattle.cv_syntax.specs.Declarations.{declarations}
use Rattle.cv_costs.specs.Collisions.{collision_of}
use Rattle.cv_costs.proofs.products.collision_of_pairs.Goals as goal

pub returns : goal.returns
returns c = λ trees.
    let ds = declarations trees c.args.decls.now.list in
    subst (λ ps. IfOk c.collision_of.result (λ made. made ≡ collision_of ds ps true c.args.over)) (c.as_slice.ensures.value ∙ c.in_ok-both.ensures) (c.collision_of.ensures trees)
