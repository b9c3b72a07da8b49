use Rattle.std.proofs.Common.{arith, ap, sym, ◌∙◌, ◌+◌, ◌≡◌, ◌∷◌, length}
use Rattle.cv_syntax_trees.specs.Tree.{second_place}
use Rattle.cv_syntax.specs.PoolTrees.{tree_at}
use Rattle.cv_syntax.proofs.Trees.{child_live, empty_at, node_at}
use Rattle.cv_syntax.proofs.Walking.{size_at}
use Rattle.cv_rule_move.specs.merge.Looks.{body_at}
use Rattle.cv_rule_move.specs.merge.Merging.{branch_bodies, first_other}
use Rattle.cv_rule_move.proofs.merge.Looks.{branch_size, end_branch, no_branch, other_here, other_later, some_branch, some_link}
use Rattle.cv_rule_move.proofs.merge.bodies.other_branch.Goals as goal

pub returns-in_default-branch_in : goal.returns-in_default-branch_in
returns-in_default-branch_in c =
    let trees = c.args.pool.now.trees in
    let node = c.read_node-link.result in
    let e = node_at trees c.branches.at c.in-Some.n node c.in-Some.is c.read_node-link.ensures.tree in
    sym (ap (first_other (tree_at trees c.args.process)) (no_branch c.branches.from (tree_at trees c.branches.at) node.head (tree_at trees node.first) (tree_at trees node.second) e c.in_default-branch_in.ensures.branch)) ∙ c.branches.invariant.same

pub body_in-body-requires-clause-fits : goal.body_in-body-requires-clause-fits
body_in-body-requires-clause-fits c =
    let trees = c.args.pool.now.trees in
    let node = c.read_node-link.result in
    let branch = c.in-Some-branch_in.branch in
    let s = size_at trees c.branches.at c.in-Some.n node c.in-Some.is c.read_node-link.ensures.tree in
    let b = branch_size node.head (tree_at trees node.first) (tree_at trees branch.first, tree_at trees branch.second) c.in-Some-branch_in.ensures.branch in
    omega (arith, c.requires.fits, c.branches.invariant.sum, s, b)

pub returns-then-not-same : goal.returns-then-not-same
returns-then-not-same c =
    let trees = c.args.pool.now.trees in
    let node = c.read_node-link.result in
    let branch = c.in-Some-branch_in.branch in
    let t = tree_at trees c.branches.at in
    let x = tree_at trees c.args.process in
    let e = node_at trees c.branches.at c.in-Some.n node c.in-Some.is c.read_node-link.ensures.tree in
    let bs = some_branch c.branches.from t node.head (tree_at trees node.first) (tree_at trees node.second) (tree_at trees branch.first, tree_at trees branch.second) e c.in-Some-branch_in.ensures.branch in
    let rest = branch_bodies (second_place c.branches.from node.head (tree_at trees node.first)) (tree_at trees node.second) in
    other_here x (branch_bodies c.branches.from t) rest (body_at trees c.body_in-body.result) c.same.result (bs ∙ ap (λ b. b ∷ rest) (sym c.body_in-body.ensures.body)) c.same.ensures c.if-not-same.true ∙ c.branches.invariant.same

pub size_below-from-requires-clause-fits : goal.size_below-from-requires-clause-fits
size_below-from-requires-clause-fits c =
    let s = size_at c.args.pool.now.trees c.branches.at c.in-Some.n c.read_node-link.result c.in-Some.is c.read_node-link.ensures.tree in
    omega (arith, c.requires.fits, c.branches.invariant.sum, s)

pub overflow_add-from : goal.overflow_add-from
overflow_add-from c =
    let s = size_at c.args.pool.now.trees c.branches.at c.in-Some.n c.read_node-link.result c.in-Some.is c.read_node-link.ensures.tree in
    omega (arith, c.requires.fits, c.branches.invariant.sum, s, c.size_below-from.ensures)

pub branches-preserved : goal.branches-preserved
branches-preserved c =
    let trees = c.args.pool.now.trees in
    let node = c.read_node-link.result in
    let branch = c.in-Some-branch_in.branch in
    let t = tree_at trees c.branches.at in
    let x = tree_at trees c.args.process in
    let e = node_at trees c.branches.at c.in-Some.n node c.in-Some.is c.read_node-link.ensures.tree in
    let s = size_at trees c.branches.at c.in-Some.n node c.in-Some.is c.read_node-link.ensures.tree in
    let light = some_link node.head (tree_at trees node.first) (tree_at trees branch.first, tree_at trees branch.second) c.in-Some-branch_in.ensures.branch in
    let behind : second_place c.branches.from node.head (tree_at trees node.first) ≡ c.branches.from + c.size_below-from.result = omega (arith, light, c.size_below-from.ensures) in
    let bs = some_branch c.branches.from t node.head (tree_at trees node.first) (tree_at trees node.second) (tree_at trees branch.first, tree_at trees branch.second) e c.in-Some-branch_in.ensures.branch in
    let rest = branch_bodies (second_place c.branches.from node.head (tree_at trees node.first)) (tree_at trees node.second) in
    record {
      live = child_live (length trees) c.branches.at c.in-Some.n node.second c.in-Some.is c.branches.invariant.live c.read_node-link.ensures.second;
      sum = omega (arith, s, light, c.size_below-from.ensures, c.branches.invariant.sum);
      same = ap (λ n. first_other x (branch_bodies n (tree_at trees node.second))) (sym behind)
          ∙ (sym (other_later x (branch_bodies c.branches.from t) rest (body_at trees c.body_in-body.result) c.same.result (bs ∙ ap (λ b. b ∷ rest) (sym c.body_in-body.ensures.body)) c.same.ensures c.if-not-same.false)
          ∙ c.branches.invariant.same);
    }

pub returns : goal.returns
returns c =
    let trees = c.args.pool.now.trees in
    sym (ap (first_other (tree_at trees c.args.process)) (end_branch c.branches.from (tree_at trees c.branches.at) (empty_at trees c.branches.at c.in_default.is))) ∙ c.branches.invariant.same
