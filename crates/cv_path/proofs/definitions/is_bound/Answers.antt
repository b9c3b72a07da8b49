use Rattle.std.proofs.Common.{rules, ap, sym, ◌∙◌}
use Rattle.cv_syntax.specs.PoolTrees.{tree_at}
use Rattle.cv_syntax.proofs.Trees.{empty_at}
use Rattle.cv_path.proofs.Binders.{bound_empty, bound_other, binder_is, binder_differs}
use Rattle.cv_path.proofs.definitions.is_bound.Goals as goal

pub returns-in_default-head : goal.returns-in_default-head
returns-in_default-head c =
    let trees = c.args.pool.now.trees in
    let node = c.read_node-node.result in
    sym (bound_other (tree_at trees c.binders.at) node.head (tree_at trees node.first) (tree_at trees node.second) c.args.x (ap (tree_at trees) c.in-Some.is ∙ c.read_node-node.ensures.tree) c.in_default-head.not-Binder) ∙ c.binders.invariant.same

pub returns-then-x-y : goal.returns-then-x-y
returns-then-x-y c =
    let trees = c.args.pool.now.trees in
    let node = c.read_node-node.result in
    sym (binder_is (tree_at trees c.binders.at) node.head (tree_at trees node.first) (tree_at trees node.second) c.in-Binder.y c.in-Binder.field-1 c.args.x (ap (tree_at trees) c.in-Some.is ∙ c.read_node-node.ensures.tree) c.in-Binder.is c.if-x-y.true) ∙ c.binders.invariant.same

pub binders-preserved : goal.binders-preserved
binders-preserved c =
    let trees = c.args.pool.now.trees in
    let node = c.read_node-node.result in
    record {
      live = search rules;
      same = sym (binder_differs (tree_at trees c.binders.at) node.head (tree_at trees node.first) (tree_at trees node.second) c.in-Binder.y c.in-Binder.field-1 c.args.x (ap (tree_at trees) c.in-Some.is ∙ c.read_node-node.ensures.tree) c.in-Binder.is c.if-x-y.false) ∙ c.binders.invariant.same;
    }

pub returns : goal.returns
returns c = sym (bound_empty (tree_at c.args.pool.now.trees c.binders.at) c.args.x (empty_at c.args.pool.now.trees c.binders.at c.in_default.is)) ∙ c.binders.invariant.same
