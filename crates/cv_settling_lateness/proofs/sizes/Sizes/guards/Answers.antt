use Rattle.std.proofs.Common.{◌≡◌, ap, ◌∙◌, arith}
use Rattle.cv_syntax.specs.PoolTrees.{tree_at}
use Rattle.cv_syntax_trees.specs.Tree.{first, second, size}
use Rattle.cv_settling_lateness.proofs.Descending.{guards_fit}
use Rattle.cv_settling_lateness.proofs.sizes.Sizes.guards.Goals as goal

pub returns : goal.returns
returns c a b =
    let trees = c.args.pool.now.trees in
    let whole = tree_at trees c.args.behind in
    let l = guards_fit whole in
    let m : size (tree_at trees c.first_of-cells.result) ≡ size (first whole) = ap size c.first_of-cells.ensures.tree in
    let n : size (tree_at trees c.first_of-condition.result) ≡ size (first (second whole)) = ap size (c.first_of-condition.ensures.tree ∙ ap first c.second_of-rest.ensures.tree) in
    let i = c.size-of_cells.ensures a (omega (arith, l, m, b)) in
    let j = c.size-of_condition.ensures a (omega (arith, l, n, b)) in
    omega (arith, i, j, l, m, n, b, c.saturating_add.ensures)
