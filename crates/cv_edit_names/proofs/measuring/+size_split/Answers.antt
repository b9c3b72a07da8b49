use Rattle.std.proofs.Common.{◌≡◌, ◌+◌, ◌*◌, ℕ, Option, Some, None, List, ◌∷◌, ◌≤◌, rules, arith, ap, sym, ◌∙◌, length}
use Rattle.std.proofs.lemmas.Result.{IfOk-weaker}
use Rattle.cv_syntax_trees.specs.Tree.{Tree, size}
use Rattle.cv_syntax.specs.PoolTrees.{tree_at}
use Rattle.cv_syntax.specs.Walks.{above}
use Rattle.cv_syntax.specs.limits.Limits.{told}
use Rattle.cv_syntax.proofs.Trees.{child_live, empty_at}
use Rattle.cv_syntax.proofs.Walking.{above_child, above_some, size_node}
use Rattle.cv_edit_names.specs.declared.around.Looked.{Looked}
use Rattle.cv_edit_names.specs.Cells.{cells_in}
use Rattle.cv_edit_names.specs.Kept.{cells_looked_for}
use Rattle.cv_edit_names.specs.Sizes.{size_of_copies, size_of_copy, sizes_in}
use Rattle.cv_edit_names.proofs.BranchSizes.{copies_none, copies_some, size_branches_of}
use Rattle.cv_edit_names.proofs.ListedCells.{other_found}
use Rattle.cv_edit_names.proofs.Sized.{size_in_node, size_in_nothing, sizes_link, sizes_other}
use Rattle.cv_edit_names.proofs.Told.{more_told, one_told, product_told}
use Rattle.cv_edit_names.proofs.measuring.+size_split.Goals as goal

pub size_branch-size_below-requires-clause-fits : goal.size_branch-size_below-requires-clause-fits
size_branch-size_below-requires-clause-fits u c = omega (arith, c.requires.fits, size_branches_of c.args.pool.now.trees c.args.branch.now)

pub size_branch-size_below-requires-2-clause-fits : goal.size_branch-size_below-requires-2-clause-fits
size_branch-size_below-requires-2-clause-fits u c = omega (arith, c.requires.fits, size_branches_of c.args.pool.now.trees c.args.branch.now)

pub size_branch-overflow_add-guards : goal.size_branch-overflow_add-guards
size_branch-overflow_add-guards u c = omega (arith, c.requires.fits, c.size_below.ensures, c.size_below-2.ensures, size_branches_of c.args.pool.now.trees c.args.branch.now)

pub size_branch-size_below-requires-3-clause-fits : goal.size_branch-size_below-requires-3-clause-fits
size_branch-size_below-requires-3-clause-fits u c = omega (arith, c.requires.fits, size_branches_of c.args.pool.now.trees c.args.branch.now)

pub size_branch-overflow_add-front : goal.size_branch-overflow_add-front
size_branch-overflow_add-front u c = omega (arith, c.requires.fits, c.size_below-3.ensures, size_branches_of c.args.pool.now.trees c.args.branch.now)

pub size_branch-overflow_add-front-2 : goal.size_branch-overflow_add-front-2
size_branch-overflow_add-front-2 u c = omega (arith, c.requires.fits, c.size_below.ensures, c.size_below-2.ensures, c.size_below-3.ensures, size_branches_of c.args.pool.now.trees c.args.branch.now)

pub size_branch-size_split-requires : goal.size_branch-size_split-requires
size_branch-size_split-requires u c = (search (rules, arith), (c.requires.looked, (c.requires.live.body, omega (arith, c.requires.fits, size_branches_of c.args.pool.now.trees c.args.branch.now))))

pub size_branches-branches-preserved : goal.size_branches-branches-preserved
size_branches-branches-preserved u c =
    let trees = c.args.pool.now.trees in
    let x = c.args.count.variable in
    let named = cells_looked_for trees c.args.looked_for.now in
    let b = c.in-Some.branch in
    let us = tree_at trees b.indices in
    let cells = tree_at trees b.cells in
    let g = tree_at trees b.condition in
    let body = tree_at trees b.body in
    let more = tree_at trees b.more in
    record {
      below = omega (arith, c.branches.invariant.below, c.in-Some.ensures.below.more);
      live = c.in-Some.ensures.live.more;
      fits = omega (arith, c.branches.invariant.fits, ap size c.in-Some.ensures.tree, size_branches_of trees b);
      total = λ k e.
          more_told c.branches.total c.in_ok-copies.copies (size_of_copies x k named us cells g body) (sizes_in x k named more) _ c.saturating_add-total.result (c.in_ok-copies.ensures k e) c.saturating_add-total.ensures
          (ap (λ n. told (c.branches.total + n)) (sym (sizes_link x k named (tree_at trees c.branches.at) us cells g body more c.in-Some.ensures.tree)) ∙ c.branches.invariant.total k e);
    }

pub size_branches-returns : goal.size_branches-returns
size_branches-returns u c = λ k e.
    let trees = c.args.pool.now.trees in
    let x = c.args.count.variable in
    let named = cells_looked_for trees c.args.looked_for.now in
    omega (arith, c.saturating_add.ensures, c.size_below.ensures, sizes_other x k named (tree_at trees c.branches.at) c.in_default.ensures.none, c.branches.invariant.total k e)

pub size_copies-returns-in_ok-one-in-Some : goal.size_copies-returns-in_ok-one-in-Some
size_copies-returns-in_ok-one-in-Some u c = λ k e.
    let trees = c.args.pool.now.trees in
    let x = c.args.count.variable in
    let b = c.args.branch.now in
    let us = tree_at trees b.indices in
    let cells = tree_at trees b.cells in
    let g = tree_at trees b.condition in
    let body = tree_at trees b.body in
    let named = cells_looked_for trees c.args.looked_for.now in
    let cell = tree_at trees c.in-Some.cell in
    let one = c.in_ok-one-in-Some.ensures k e ∙ ap (λ (ls : List Looked). told (size_of_copy x k (cells_looked_for trees ls) us cells g body)) (c.as_slice.ensures.value ∙ c.in_ok-inside-in-Some.ensures) in
    let found = other_found trees c.args.looked_for.now (cells_in x cells) c.first_unnamed.result (Some c.in-Some.cell) c.first_unnamed.ensures.cell c.in-Some.is in
    c.saturating_mul.ensures ∙ (product_told c.in_ok-one-in-Some.one (size_of_copy x k (cell ∷ named) us cells g body) c.args.count.names k one e ∙ ap told (sym (copies_some x k named us cells g body cell found)))

pub size_copies-returns-in-None : goal.size_copies-returns-in-None
size_copies-returns-in-None u c =
    let trees = c.args.pool.now.trees in
    let x = c.args.count.variable in
    let b = c.args.branch.now in
    let us = tree_at trees b.indices in
    let cells = tree_at trees b.cells in
    let g = tree_at trees b.condition in
    let body = tree_at trees b.body in
    let named = cells_looked_for trees c.args.looked_for.now in
    let found = other_found trees c.args.looked_for.now (cells_in x cells) c.first_unnamed.result None c.first_unnamed.ensures.cell c.in-None.is in
    IfOk-weaker c.size_branch-in-None.result
    (λ n. (k : ℕ) → c.args.count.names ≡ told k → n ≡ told (size_of_copy x k named us cells g body))
    (λ n. (k : ℕ) → c.args.count.names ≡ told k → n ≡ told (size_of_copies x k named us cells g body))
    (λ n h. λ k e. h k e ∙ (sym (one_told (size_of_copy x k named us cells g body)) ∙ ap told (sym (copies_none x k named us cells g body found)))) c.size_branch-in-None.ensures

pub size_split-returns-in_default : goal.size_split-returns-in_default
size_split-returns-in_default u c = λ k e.
    let trees = c.args.pool.now.trees in
    omega (arith, size_in_nothing c.args.count.variable k (cells_looked_for trees c.args.looked_for.now) (tree_at trees c.args.start) (empty_at trees c.args.start c.in_default.is))

pub size_split-size_first-requires : goal.size_split-size_first-requires
size_split-size_first-requires u c =
    let trees = c.args.pool.now.trees in
    let node = c.read_node-node.result in
    let e = ap (tree_at trees) c.in-Some.is ∙ c.read_node-node.ensures.tree in
    let z = size_node (tree_at trees c.args.start) node.head (tree_at trees node.first) (tree_at trees node.second) e in
    let less : 4 * above node.first + 2 ≤ 4 * above c.args.start = omega (arith, above_some c.args.start c.in-Some.n c.in-Some.is, above_child c.in-Some.n.0 node.first c.read_node-node.ensures.first) in
    (search (rules, arith), (c.requires.looked, (child_live (length trees) c.args.start c.in-Some.n node.first c.in-Some.is c.requires.live c.read_node-node.ensures.first, omega (arith, c.requires.fits, z))))

pub size_split-size_split-requires : goal.size_split-size_split-requires
size_split-size_split-requires u c =
    let trees = c.args.pool.now.trees in
    let node = c.read_node-node.result in
    let e = ap (tree_at trees) c.in-Some.is ∙ c.read_node-node.ensures.tree in
    let z = size_node (tree_at trees c.args.start) node.head (tree_at trees node.first) (tree_at trees node.second) e in
    let less : 4 * above node.second + 1 ≤ 4 * above c.args.start = omega (arith, above_some c.args.start c.in-Some.n c.in-Some.is, above_child c.in-Some.n.0 node.second c.read_node-node.ensures.second) in
    (search (rules, arith), (c.requires.looked, (child_live (length trees) c.args.start c.in-Some.n node.second c.in-Some.is c.requires.live c.read_node-node.ensures.second, omega (arith, c.requires.fits, z))))

pub size_split-returns : goal.size_split-returns
size_split-returns u c = λ k e.
    let trees = c.args.pool.now.trees in
    let node = c.read_node-node.result in
    let same = ap (tree_at trees) c.in-Some.is ∙ c.read_node-node.ensures.tree in
    let z = size_in_node c.args.count.variable k (cells_looked_for trees c.args.looked_for.now) (tree_at trees c.args.start) node.head (tree_at trees node.first) (tree_at trees node.second) same in
    omega (arith, z, c.weight.ensures.weight, c.in_ok-first.ensures k e, c.in_ok-second.ensures k e, c.saturating_add.ensures, c.saturating_add-2.ensures)
