use Rattle.std.proofs.Common.{length, ap₂, sym, ◌∙◌}
use Rattle.cv_syntax.specs.PoolTrees.{tree_at}
use Rattle.cv_syntax_trees.specs.sites.Sites.{binder_sort}
use Rattle.cv_typing.specs.Tables.{arrays_of}
use Rattle.cv_syntax_trees.specs.sites.Sorts.{differs_from}
use Rattle.cv_scope_rules.proofs.typing.Differences.{differ_end, differ_skip, differ_step, or_false, or_true}
use Rattle.cv_syntax.proofs.Trees.{child_live, empty_at, node_at}
use Rattle.cv_typing.proofs.faults.binders_differ.Goals as goal

pub returns-then-differs_from : goal.returns-then-differs_from
returns-then-differs_from c =
    let trees = c.args.pool.now.trees in
    let node = c.read_node-node.result in
    let step = differ_step (arrays_of c.args.arrays.now) (binder_sort c.args.are_indices) (tree_at trees c.list.at) node.head (tree_at trees node.first) (tree_at trees node.second) c.in-Binder.x c.in-Binder.t (node_at trees c.list.at c.in-Some.k node c.in-Some.is c.read_node-node.ensures.tree) c.in-Binder.is in
    or_true _ _ _ _ step c.list.invariant.same (ap₂ differs_from (sym c.variable_sort.ensures) (sym c.sort_of_binder.ensures) ∙ (sym c.differs_from.ensures ∙ c.if-differs_from.true))

pub list-preserved-else-differs_from : goal.list-preserved-else-differs_from
list-preserved-else-differs_from c =
    let trees = c.args.pool.now.trees in
    let node = c.read_node-node.result in
    let step = differ_step (arrays_of c.args.arrays.now) (binder_sort c.args.are_indices) (tree_at trees c.list.at) node.head (tree_at trees node.first) (tree_at trees node.second) c.in-Binder.x c.in-Binder.t (node_at trees c.list.at c.in-Some.k node c.in-Some.is c.read_node-node.ensures.tree) c.in-Binder.is in
    record {
      live = child_live (length trees) c.list.at c.in-Some.k node.second c.in-Some.is c.list.invariant.live c.read_node-node.ensures.second;
      same = or_false _ _ _ _ step c.list.invariant.same (ap₂ differs_from (sym c.variable_sort.ensures) (sym c.sort_of_binder.ensures) ∙ (sym c.differs_from.ensures ∙ c.if-differs_from.false));
    }

pub list-preserved : goal.list-preserved
list-preserved c =
    let trees = c.args.pool.now.trees in
    let node = c.read_node-node.result in
    record {
      live = child_live (length trees) c.list.at c.in-Some.k node.second c.in-Some.is c.list.invariant.live c.read_node-node.ensures.second;
      same = sym (differ_skip (arrays_of c.args.arrays.now) (binder_sort c.args.are_indices) (tree_at trees c.list.at) node.head (tree_at trees node.first) (tree_at trees node.second) (node_at trees c.list.at c.in-Some.k node c.in-Some.is c.read_node-node.ensures.tree) c.in_default-head.not-Binder) ∙ c.list.invariant.same;
    }

pub returns : goal.returns
returns c = sym (differ_end (arrays_of c.args.arrays.now) (binder_sort c.args.are_indices) (tree_at c.args.pool.now.trees c.list.at) (empty_at c.args.pool.now.trees c.list.at c.in_default.is)) ∙ c.list.invariant.same
