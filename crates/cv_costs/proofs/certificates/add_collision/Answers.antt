use Rattle.std.proofs.Common.{[], Some, ap, arith, length, sym, ◌++◌, ◌∙◌}
use Rattle.cv_syntax.specs.Declarations.{declarations}
use Rattle.cv_syntax.specs.PoolTrees.{tree_at}
use Rattle.cv_syntax_trees.specs.sites.Sites.{first_site}
use Rattle.cv_scope_rules.specs.typing.Signature.{variable_in, variable_sort}
use Rattle.cv_costs.specs.Copies.{parameters_by}
use Rattle.cv_costs.proofs.CertificateCosts.{priced}
use Rattle.cv_costs.proofs.Copies.{few_parameters}
use Rattle.cv_costs.proofs.certificates.add_collision.Goals as goal

pub collision_of_pairs-requires : goal.collision_of_pairs-requires
collision_of_pairs-requires c =
    let w = c.args.work.now in
    let game = tree_at w.pool.trees (Some c.args.game) in
    let same = ap length (c.as_slice.ensures.value ∙ (c.in_ok-parameters.ensures ∙ ap (λ A. parameters_by (variable_in A c.args.x)) c.requires.arrays)) in
    omega (arith, same, few_parameters (declarations w.pool.trees w.decls.list) game c.args.x c.requires.formed.scoped)

pub returns : goal.returns
returns c =
    let w = c.args.work.now in
    let game = tree_at w.pool.trees (Some c.args.game) in
    let parameters = c.as_slice.ensures.value ∙ (c.in_ok-parameters.ensures ∙ ap (λ A. parameters_by (variable_in A c.args.x)) c.requires.arrays) in
    let sort = sym c.in-Some.is ∙ (c.variable_sort.ensures ∙ ap (λ A. variable_sort A c.args.x) c.requires.arrays) in
    c.in_ok-push.ensures.items
    ∙ ap (λ l. c.args.list.now.items ++ l)
    (priced (declarations w.pool.trees w.decls.list) (first_site c.args.x [] game) c.in-Some.sort _ _ _ sort parameters c.type_of.ensures (c.in_ok-collision.ensures w.pool.trees))
