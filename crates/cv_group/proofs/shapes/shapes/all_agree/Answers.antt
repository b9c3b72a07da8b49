use Rattle.std.proofs.Common.{length, sym, ◌∙◌}
use Rattle.cv_syntax.specs.PoolTrees.{tree_at}
use Rattle.cv_syntax.proofs.Trees.{child_live, empty_at, node_at}
use Rattle.cv_group.proofs.shapes.Steps as step
use Rattle.cv_group.proofs.shapes.shapes.all_agree.Goals as goal

pub returns-in_default-q : goal.returns-in_default-q
returns-in_default-q c =
    let trees = c.args.pool.now.trees in
    let x = c.read_node-x.result in
    sym (step.agree_short (tree_at trees c.list.p) (tree_at trees c.list.q) x.head (tree_at trees x.first) (tree_at trees x.second) (node_at trees c.list.p c.in-Some.m x c.in-Some.is c.read_node-x.ensures.tree) (empty_at trees c.list.q c.in_default-q.is)) ∙ c.list.invariant.same

pub returns-then-not-functions_agree : goal.returns-then-not-functions_agree
returns-then-not-functions_agree c =
    let trees = c.args.pool.now.trees in
    let x = c.read_node-x.result in
    let y = c.read_node-y.result in
    step.and_false _ _ _ _ (step.agree_step (tree_at trees c.list.p) (tree_at trees c.list.q) x.head (tree_at trees x.first) (tree_at trees x.second) y.head (tree_at trees y.first) (tree_at trees y.second) (node_at trees c.list.p c.in-Some.m x c.in-Some.is c.read_node-x.ensures.tree) (node_at trees c.list.q c.in-Some-q.n y c.in-Some-q.is c.read_node-y.ensures.tree)) c.list.invariant.same (sym c.functions_agree.ensures ∙ c.if-not-functions_agree.true)

pub list-preserved : goal.list-preserved
list-preserved c =
    let trees = c.args.pool.now.trees in
    let x = c.read_node-x.result in
    let y = c.read_node-y.result in
    record { live = child_live (length trees) c.list.p c.in-Some.m x.second c.in-Some.is c.list.invariant.live c.read_node-x.ensures.second; right = child_live (length trees) c.list.q c.in-Some-q.n y.second c.in-Some-q.is c.list.invariant.right c.read_node-y.ensures.second; same = step.and_true _ _ _ _ (step.agree_step (tree_at trees c.list.p) (tree_at trees c.list.q) x.head (tree_at trees x.first) (tree_at trees x.second) y.head (tree_at trees y.first) (tree_at trees y.second) (node_at trees c.list.p c.in-Some.m x c.in-Some.is c.read_node-x.ensures.tree) (node_at trees c.list.q c.in-Some-q.n y c.in-Some-q.is c.read_node-y.ensures.tree)) c.list.invariant.same (sym c.functions_agree.ensures ∙ c.if-not-functions_agree.false) }

pub returns : goal.returns
returns c =
    let trees = c.args.pool.now.trees in
    c.is_empty.ensures.test ∙ (sym (step.agree_end (tree_at trees c.list.p) (tree_at trees c.list.q) (empty_at trees c.list.p c.in_default.is)) ∙ c.list.invariant.same)
