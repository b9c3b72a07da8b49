use Rattle.std.proofs.Common.{◌+◌, ◌≤◌, ap, arith, length, subst, ◌∙◌}
use Rattle.std.specs.Prelude.{IsErrOf, OnOk}
use Rattle.cv_pool.specs.declared.pool.PoolError.TheVariants as pool
use Rattle.cv_inline.specs.terms.Stacks.{stack}
use Rattle.cv_inline_walk.specs.Steps.{next_tree}
use Rattle.cv_syntax.proofs.limits.Counting.{nodes_made}
use Rattle.cv_inline_walk.proofs.parts.plant_parts.Goals as goal

pub returns-in-Ok-clause-room : goal.returns-in-Ok-clause-room
returns-in-Ok-clause-room c = λ g k.
    let t = next_tree c.args.pool.now.trees c.args.drawn.now c.args.key c.args.callings.now g c.args.context in
    subst (λ n. OnOk c.plant_tree.result (length c.args.pool.now.trees + n ≤ c.args.pool.now.limit)) (nodes_made c.as_slice.result.now t (ap stack c.as_slice.ensures.value ∙ c.in-Ok.ensures g k)) c.plant_tree.ensures.room

pub returns-in-Ok-clause-full : goal.returns-in-Ok-clause-full
returns-in-Ok-clause-full c = λ n r g k.
    let t = next_tree c.args.pool.now.trees c.args.drawn.now c.args.key c.args.callings.now g c.args.context in
    let same = c.plant_tree.ensures.other n r in
    let crowd = c.plant_tree.ensures.full (subst (λ m. IsErrOf c.plant_tree.result (pool.Full m)) same r) in
    (same ∙ nodes_made c.as_slice.result.now t (ap stack c.as_slice.ensures.value ∙ c.in-Ok.ensures g k), omega (arith, same, crowd))
