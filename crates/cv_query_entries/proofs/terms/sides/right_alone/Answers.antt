use Rattle.std.proofs.Common.{length, ap, ◌∙◌}
use Rattle.std.specs.Prelude.{◌++◌}
use Rattle.cv_syntax.specs.PoolTrees.{tree_at}
use Rattle.cv_syntax.proofs.Trees.{child_live, empty_at, node_at}
use Rattle.cv_meaning.specs.Correspondences.{leaf_names}
use Rattle.cv_query_entries.proofs.terms.Reading.{alone_by, alone_dropped, alone_end, alone_kept, alone_other, alone_of}
use Rattle.cv_query_entries.proofs.terms.sides.right_alone.Goals as goal

pub binders-preserved-in_ok-push : goal.binders-preserved-in_ok-push
binders-preserved-in_ok-push c =
    let trees = c.args.pool.now.trees in
    let cell = c.read_node-cell.result in
    let xs = leaf_names (tree_at trees c.args.variables) in
    let atoms = tree_at trees c.args.right in
    record {
      live = child_live (length trees) c.binders.at c.in-Some.n cell.second c.in-Some.is c.binders.invariant.live c.read_node-cell.ensures.second;
      same = ap (λ ys. ys ++ alone_of xs atoms (tree_at trees cell.second)) c.in_ok-push.ensures.items
          ∙ (alone_kept xs atoms (tree_at trees c.binders.at) cell.head (tree_at trees cell.first) (tree_at trees cell.second) (node_at trees c.binders.at c.in-Some.n cell c.in-Some.is c.read_node-cell.ensures.tree) c.in-Binder.x c.in-Binder.t c.in-Binder.is c.binders.found.items
          (alone_by xs atoms c.in_ok-on_the_left.on_the_left c.in_ok-on_the_right.on_the_right c.in-Binder.x c.in-Binder.t c.is_new_in.result c.in_ok-on_the_left.ensures c.in_ok-on_the_right.ensures c.is_new_in.ensures ∙ c.if-is_new_in.true)
          ∙ c.binders.invariant.same);
    }

pub binders-preserved : goal.binders-preserved
binders-preserved c =
    let trees = c.args.pool.now.trees in
    let cell = c.read_node-cell.result in
    let xs = leaf_names (tree_at trees c.args.variables) in
    let atoms = tree_at trees c.args.right in
    record {
      live = child_live (length trees) c.binders.at c.in-Some.n cell.second c.in-Some.is c.binders.invariant.live c.read_node-cell.ensures.second;
      same = alone_dropped xs atoms (tree_at trees c.binders.at) cell.head (tree_at trees cell.first) (tree_at trees cell.second) (node_at trees c.binders.at c.in-Some.n cell c.in-Some.is c.read_node-cell.ensures.tree) c.in-Binder.x c.in-Binder.t c.in-Binder.is c.binders.found.items
          (alone_by xs atoms c.in_ok-on_the_left.on_the_left c.in_ok-on_the_right.on_the_right c.in-Binder.x c.in-Binder.t c.is_new_in.result c.in_ok-on_the_left.ensures c.in_ok-on_the_right.ensures c.is_new_in.ensures ∙ c.if-is_new_in.false)
          ∙ c.binders.invariant.same;
    }

pub returns-in_default-head : goal.returns-in_default-head
returns-in_default-head c =
    let trees = c.args.pool.now.trees in
    let cell = c.read_node-cell.result in
    alone_other (leaf_names (tree_at trees c.args.variables)) (tree_at trees c.args.right) (tree_at trees c.binders.at) cell.head (tree_at trees cell.first) (tree_at trees cell.second) (node_at trees c.binders.at c.in-Some.n cell c.in-Some.is c.read_node-cell.ensures.tree) c.binders.found.items c.in_default-head.not-Binder ∙ c.binders.invariant.same

pub returns : goal.returns
returns c =
    let trees = c.args.pool.now.trees in
    alone_end (leaf_names (tree_at trees c.args.variables)) (tree_at trees c.args.right) (tree_at trees c.binders.at) c.binders.found.items (empty_at trees c.binders.at c.in_default.is) ∙ c.binders.invariant.same
