use Rattle.std.proofs.Common.{◌≡◌, ap, subst, Some, ◌∙◌}
use Rattle.std.specs.Prelude.{IfOk}
use Rattle.cv_syntax.specs.PoolTrees.{tree_at}
use Rattle.cv_meaning.specs.contexts.Sides.{Context}
use Rattle.cv_context.specs.Roles.{name_at}
use Rattle.cv_syntax.specs.limits.Limits.{nodes_of}
use Rattle.cv_kernel_crypto.proofs.Reduced.{context_same}
use Rattle.cv_kernel_crypto.proofs.contexts.context_for.Goals as goal

pub returns-in-Ok-clause-tree : goal.returns-in-Ok-clause-tree
returns-in-Ok-clause-tree c = λ s e a l.
    let names = c.as_slice.result.now in
    let same = context_same c.args.pool.now.trees s e c.args.key c.args.sites.now (Some c.args.game) a names l (λ k h. ap (λ xs. name_at xs k) c.as_slice.ensures.value ∙ c.in-Ok.ensures k h) in
    subst (λ (m : Context). IfOk c.context.result (λ n. tree_at c.context.new.pool.trees (Some n) ≡ m.game)) same (c.context.ensures.tree s e a)

pub returns-in-Ok-clause-full : goal.returns-in-Ok-clause-full
returns-in-Ok-clause-full c = λ n r s e a l.
    let names = c.as_slice.result.now in
    let same = context_same c.args.pool.now.trees s e c.args.key c.args.sites.now (Some c.args.game) a names l (λ k h. ap (λ xs. name_at xs k) c.as_slice.ensures.value ∙ c.in-Ok.ensures k h) in
    let f = c.context.ensures.full n r s e a in
    (f.0 ∙ ap (λ (m : Context). nodes_of m.game) same, f.1)
