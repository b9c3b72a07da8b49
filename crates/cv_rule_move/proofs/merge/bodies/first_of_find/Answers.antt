use Rattle.std.proofs.Common.{arith, ap, ◌+◌, Some, ◌∙◌}
use Rattle.cv_syntax.specs.PoolTrees.{tree_at}
use Rattle.cv_syntax.proofs.Trees.{empty_at, node_at}
use Rattle.cv_syntax.proofs.Walking.{size_at}
use Rattle.cv_rule_move.specs.merge.Merging.{Body}
use Rattle.cv_rule_move.proofs.merge.Looks.{branch_size, end_branch, find_branch, find_else, no_branch, some_branch}
use Rattle.cv_rule_move.proofs.merge.bodies.first_of_find.Goals as goal

pub returns-in_default-clause-body : goal.returns-in_default-clause-body
returns-in_default-clause-body c = λ l.
    let trees = c.args.pool.now.trees in
    let t = tree_at trees c.args.branches in
    ap (λ n. Some (let b : Body = record { place = c.args.place + 1 + n; process = tree_at trees c.args.otherwise } in b)) c.size_below.ensures
    ∙ find_else c.args.place l t (tree_at trees c.args.otherwise) (end_branch (c.args.place + 1) t (empty_at trees c.args.branches c.in_default.is))

pub body_in-requires-clause-fits : goal.body_in-requires-clause-fits
body_in-requires-clause-fits c =
    let trees = c.args.pool.now.trees in
    let node = c.read_node.result in
    let branch = c.in-Some-branch_in.branch in
    let s = size_at trees c.args.branches c.in-Some.n node c.in-Some.is c.read_node.ensures.tree in
    let b = branch_size node.head (tree_at trees node.first) (tree_at trees branch.first, tree_at trees branch.second) c.in-Some-branch_in.ensures.branch in
    omega (arith, c.requires.fits, s, b)

pub returns-in-Some-branch_in-clause-body : goal.returns-in-Some-branch_in-clause-body
returns-in-Some-branch_in-clause-body c = λ l.
    let trees = c.args.pool.now.trees in
    let t = tree_at trees c.args.branches in
    let node = c.read_node.result in
    let branch = c.in-Some-branch_in.branch in
    let e = node_at trees c.args.branches c.in-Some.n node c.in-Some.is c.read_node.ensures.tree in
    ap Some c.body_in.ensures.body
    ∙ find_branch c.args.place l t (tree_at trees c.args.otherwise) _ _ (some_branch (c.args.place + 1) t node.head (tree_at trees node.first) (tree_at trees node.second) (tree_at trees branch.first, tree_at trees branch.second) e c.in-Some-branch_in.ensures.branch)

pub returns-in-None-clause-body : goal.returns-in-None-clause-body
returns-in-None-clause-body c = λ l.
    let trees = c.args.pool.now.trees in
    let t = tree_at trees c.args.branches in
    let node = c.read_node.result in
    let e = node_at trees c.args.branches c.in-Some.n node c.in-Some.is c.read_node.ensures.tree in
    ap (λ n. Some (let b : Body = record { place = c.args.place + 1 + n; process = tree_at trees c.args.otherwise } in b)) c.size_below.ensures
    ∙ find_else c.args.place l t (tree_at trees c.args.otherwise) (no_branch (c.args.place + 1) t node.head (tree_at trees node.first) (tree_at trees node.second) e c.in-None.ensures.branch)
