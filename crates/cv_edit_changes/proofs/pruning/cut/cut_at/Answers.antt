use Rattle.std.proofs.Common.{◌≡◌, ◌≤◌, ◌+◌, ◌-◌, ℕ, suc, max, Some, None, rules, refl, sym, ap, ◌∙◌, arith, length}
use Rattle.std.specs.Prelude.{option_map}
use Rattle.cv_syntax_trees.specs.declared.head.Head.TheVariants.{Cons}
use Rattle.cv_syntax.specs.Walks.{above}
use Rattle.cv_syntax_trees.specs.Tree.{Node, size, depth}
use Rattle.cv_syntax.specs.PoolTrees.{tree_at}
use Rattle.cv_syntax.proofs.Walking.{depth_le_size}
use Rattle.cv_scene.specs.Pruning.{branch_body}
use Rattle.cv_edit_changes.specs.declared.pruning.cut.Cut.{Cut}
use Rattle.cv_edit_changes.proofs.pruning.Branches.{found_cell, no_number, here_body, shifted, step_body, step_size, step_depth, cell_size}
use Rattle.cv_edit_changes.proofs.pruning.cut.cut_at.Goals as goal

pub returns-then-k-eq0-clause-place : goal.returns-then-k-eq0-clause-place
returns-then-k-eq0-clause-place c = λ p. ap (branch_body p (tree_at c.args.pool.now.trees c.args.list)) c.if-k-eq0.true ∙ no_number p (tree_at c.args.pool.now.trees c.args.list)

pub returns-then-left-eq1-clause-few : goal.returns-then-left-eq1-clause-few
returns-then-left-eq1-clause-few c =
    let trees = c.args.pool.now.trees in
    let cell = c.in_ok-cell.cell in
    let t = tree_at trees c.items.at in
    let b = tree_at trees cell.first in
    let m = tree_at trees cell.second in
    let at : tree_at trees c.items.at ≡ tree_at trees (Some c.in-Some.n) = ap (tree_at trees) c.in-Some.is in
    let e : t ≡ Node Cons b m = at ∙ found_cell (λ o. (tree_at trees o.first, tree_at trees o.second)) c.first_cell.result cell (tree_at trees (Some c.in-Some.n)) c.first_cell.ensures.cell c.in_ok-cell.was in
    omega (arith, c.items.invariant.small, c.in_ok-before_body.ensures.few, cell_size t b m e)

pub size_below-nodes-requires-clause-fits : goal.size_below-nodes-requires-clause-fits
size_below-nodes-requires-clause-fits c =
    let trees = c.args.pool.now.trees in
    let cell = c.in_ok-cell.cell in
    let t = tree_at trees c.items.at in
    let b = tree_at trees cell.first in
    let m = tree_at trees cell.second in
    let at : tree_at trees c.items.at ≡ tree_at trees (Some c.in-Some.n) = ap (tree_at trees) c.in-Some.is in
    let e : t ≡ Node Cons b m = at ∙ found_cell (λ o. (tree_at trees o.first, tree_at trees o.second)) c.first_cell.result cell (tree_at trees (Some c.in-Some.n)) c.first_cell.ensures.cell c.in_ok-cell.was in
    omega (arith, c.requires.fits, c.items.invariant.small, cell_size t b m e)

pub overflow_add-nodes : goal.overflow_add-nodes
overflow_add-nodes c =
    let trees = c.args.pool.now.trees in
    let cell = c.in_ok-cell.cell in
    let t = tree_at trees c.items.at in
    let b = tree_at trees cell.first in
    let m = tree_at trees cell.second in
    let at : tree_at trees c.items.at ≡ tree_at trees (Some c.in-Some.n) = ap (tree_at trees) c.in-Some.is in
    let e : t ≡ Node Cons b m = at ∙ found_cell (λ o. (tree_at trees o.first, tree_at trees o.second)) c.first_cell.result cell (tree_at trees (Some c.in-Some.n)) c.first_cell.ensures.cell c.in_ok-cell.was in
    omega (arith, c.requires.fits, c.items.invariant.small, cell_size t b m e, c.size_below-nodes.ensures)

pub items-preserved : goal.items-preserved
items-preserved c =
    let trees = c.args.pool.now.trees in
    let cell = c.in_ok-cell.cell in
    let t = tree_at trees c.items.at in
    let b = tree_at trees cell.first in
    let m = tree_at trees cell.second in
    let at : tree_at trees c.items.at ≡ tree_at trees (Some c.in-Some.n) = ap (tree_at trees) c.in-Some.is in
    let e : t ≡ Node Cons b m = at ∙ found_cell (λ o. (tree_at trees o.first, tree_at trees o.second)) c.first_cell.result cell (tree_at trees (Some c.in-Some.n)) c.first_cell.ensures.cell c.in_ok-cell.was in
    let more : 2 ≤ c.items.left = omega (arith, c.items.invariant.number, c.if-left-eq1.false) in
    let deepest : c.max-depth.result ≡ max c.items.depth c.depth_below.result = search rules in
    record {
      live = search rules;
      number = omega (arith, more);
      fewer = omega (arith, c.items.invariant.fewer);
      small = omega (arith, c.items.invariant.small, cell_size t b m e, c.size_below-nodes.ensures);
      flat = omega (arith, deepest, c.items.invariant.flat, c.size_below-nodes.ensures, c.depth_below.ensures, depth_le_size b);
      place = λ p. c.items.invariant.place p ∙ (step_body (p + c.items.nodes) t b m c.items.left e more ∙ shifted p c.items.nodes (size b) c.size_below-nodes.result m (c.items.left - 1) c.size_below-nodes.ensures);
      sizes = omega (arith, c.items.invariant.sizes, step_size t b m c.items.left e more, c.size_below-nodes.ensures);
      depths = omega (arith, deepest, c.items.invariant.depths, step_depth t b m c.items.left e more, c.depth_below.ensures);
      same = λ f. absurd (omega (arith, f, c.items.invariant.fewer, more));
    }

pub items-smaller : goal.items-smaller
items-smaller c = omega (arith, c.in_ok-cell.ensures.below, ap above c.in-Some.is)

pub returns-in_err-before_body-clause-place : goal.returns-in_err-before_body-clause-place
returns-in_err-before_body-clause-place c =
    let trees = c.args.pool.now.trees in
    let cell = c.in_ok-cell.cell in
    let t = tree_at trees c.items.at in
    let b = tree_at trees cell.first in
    let m = tree_at trees cell.second in
    let at : tree_at trees c.items.at ≡ tree_at trees (Some c.in-Some.n) = ap (tree_at trees) c.in-Some.is in
    let e : t ≡ Node Cons b m = at ∙ found_cell (λ o. (tree_at trees o.first, tree_at trees o.second)) c.first_cell.result cell (tree_at trees (Some c.in-Some.n)) c.first_cell.ensures.cell c.in_ok-cell.was in
    let one : c.items.left ≡ 1 = c.if-left-eq1.true in
    λ p.
    c.items.invariant.place p
    ∙ (ap (λ k. branch_body (p + c.items.nodes) t k) one
    ∙ (ap (λ u. branch_body (p + c.items.nodes) u 1) e
    ∙ (here_body (p + c.items.nodes) b m ∙ ap (option_map (λ n. p + c.items.nodes + n)) (sym c.before_body.ensures.count ∙ c.in_err-before_body.was)
    ∙ sym (ap (option_map (λ (x : Cut). p + (x.nodes + x.before_body))) c.from_residual-in_err-before_body.ensures))))
