use Rattle.std.proofs.Common.{length, ◌∙◌}
use Rattle.cv_syntax.specs.NameSets.{is_in}
use Rattle.cv_syntax.specs.PoolTrees.{tree_at}
use Rattle.cv_syntax.proofs.Trees.{child_live, empty_at, node_at}
use Rattle.cv_scope_rules.specs.Made.{is_bound}
use Rattle.cv_costs.proofs.names.Looks.{bound_end, bound_more, bound_other, none_more}
use Rattle.cv_costs.proofs.names.names.add_bound.Goals as goal

pub returns-in_default-head : goal.returns-in_default-head
returns-in_default-head c = λ y.
    let trees = c.args.pool.now.trees in
    let node = c.read_node-cell.result in
    none_more (is_bound (tree_at trees c.binders.at) y) (is_in c.binders.names y) (is_bound (tree_at trees c.args.binders) y) (is_in c.args.names.now y)
    (bound_other (tree_at trees c.binders.at) node.head (tree_at trees node.first) (tree_at trees node.second) y (node_at trees c.binders.at c.in-Some.n node c.in-Some.is c.read_node-cell.ensures.tree) c.in_default-head.not-Binder)
    (c.binders.invariant.same y)

pub binders-preserved : goal.binders-preserved
binders-preserved c =
    let trees = c.args.pool.now.trees in
    let node = c.read_node-cell.result in
    record {
      live = child_live (length trees) c.binders.at c.in-Some.n node.second c.in-Some.is c.binders.invariant.live c.read_node-cell.ensures.second;
      same = λ y. bound_more (tree_at trees c.binders.at) node.head (tree_at trees node.first) (tree_at trees node.second) c.binders.names c.insert.new.self c.in-Binder.x c.in-Binder.field-1 (node_at trees c.binders.at c.in-Some.n node c.in-Some.is c.read_node-cell.ensures.tree) c.in-Binder.is c.in_ok-insert.ensures.updates y ∙ c.binders.invariant.same y;
    }

pub returns : goal.returns
returns c = λ y. none_more (is_bound (tree_at c.args.pool.now.trees c.binders.at) y) (is_in c.binders.names y) (is_bound (tree_at c.args.pool.now.trees c.args.binders) y) (is_in c.args.names.now y) (bound_end (tree_at c.args.pool.now.trees c.binders.at) y (empty_at c.args.pool.now.trees c.binders.at c.in_default.is)) (c.binders.invariant.same y)
