use Rattle.std.proofs.Common.{◌+◌, ◌≤◌, ap, arith, length, subst, ◌∙◌}
use Rattle.std.specs.Prelude.{IsErrOf, OnOk}
use Rattle.cv_pool.specs.declared.pool.PoolError.TheVariants as pool
use Rattle.cv_syntax.specs.Planting.{overs}
use Rattle.cv_scene.specs.Contexts.{context_of}
use Rattle.cv_context.specs.Roles.{name_at}
use Rattle.cv_context.proofs.building.context.Goals as goal

pub returns-in-Ok-clause-tree : goal.returns-in-Ok-clause-tree
returns-in-Ok-clause-tree c = λ s e a. c.plant_tree.ensures.back (context_of s e c.args.key (name_at c.args.answers.now)).game (c.as_slice.ensures.value ∙ c.in-Ok.ensures s e a)

pub returns-in-Ok-clause-room : goal.returns-in-Ok-clause-room
returns-in-Ok-clause-room c = λ s e a.
    subst (λ ms. OnOk c.plant_tree.result (length c.args.pool.now.trees + overs ms ≤ c.args.pool.now.limit)) (c.as_slice.ensures.value ∙ c.in-Ok.ensures s e a) c.plant_tree.ensures.room

pub returns-in-Ok-clause-full : goal.returns-in-Ok-clause-full
returns-in-Ok-clause-full c = λ n r s e a.
    let same = c.plant_tree.ensures.other n r in
    let crowd = c.plant_tree.ensures.full (subst (λ m. IsErrOf c.plant_tree.result (pool.Full m)) same r) in
    (same ∙ ap overs (c.as_slice.ensures.value ∙ c.in-Ok.ensures s e a), omega (arith, same, crowd))
