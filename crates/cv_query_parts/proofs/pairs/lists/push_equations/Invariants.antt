use Rattle.std.proofs.Common.{◌≡◌, ◌++◌, drop}
use Rattle.std.specs.Prelude.{flat_map}
use Rattle.cv_syntax.specs.Postorder.{postorder}
use Rattle.cv_scene.specs.Pairs.{of_second}
use Rattle.cv_query_parts.specs.pairs.Routes.{index_tree}
use Rattle.cv_query_parts.proofs.pairs.Making.{equations}
use Rattle.cv_query_parts.proofs.pairs.lists.push_equations.Given as goal

abbrev pub invariant-indices : goal.invariant-indices
invariant-indices l =
    let all = equations (index_tree l.pool.trees) (λ i. of_second l.names.raise l.names.rows.now (index_tree l.pool.trees i)) l.ones l.others in
    l.makes.items ++ flat_map postorder (drop l.k all) ≡ l.fn.makes.items ++ flat_map postorder all
