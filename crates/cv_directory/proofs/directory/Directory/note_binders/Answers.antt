use Rattle.std.proofs.Common.{length, Some, ap, sym, ◌∙◌}
use Rattle.cv_syntax.specs.PoolTrees.{tree_at}
use Rattle.cv_directory.specs.Definitions.{bound_definitions}
use Rattle.cv_syntax_trees.specs.sites.Sites.{binder_sort}
use Rattle.cv_directory.specs.Tables.{entries_in, no_index, with_entries}
use Rattle.cv_directory.proofs.Entries.{binders_end, binders_skip, binders_step}
use Rattle.cv_syntax.proofs.Trees.{child_live, empty_at, node_at}
use Rattle.cv_directory.proofs.directory.Directory.note_binders.Goals as goal

pub list-preserved-in_ok-note : goal.list-preserved-in_ok-note
list-preserved-in_ok-note c =
    let trees = c.args.pool.now.trees in
    let node = c.read_node-binder.result in
    let here = tree_at trees (Some c.args.node) in
    record {
      live = child_live (length trees) c.list.at c.in-Some.k node.second c.in-Some.is c.list.invariant.live c.read_node-binder.ensures.second;
      same = λ large h.
          ap (λ e. with_entries large e (λ y. bound_definitions c.args.path.now c.args.place here (binder_sort c.args.are_indices) y (tree_at trees node.second)) no_index) (c.in_ok-note.ensures.entries trees large h)
          ∙ (binders_step large (entries_in trees c.list.self) c.args.path.now c.args.place here (binder_sort c.args.are_indices) (tree_at trees c.list.at) node.head (tree_at trees node.first) (tree_at trees node.second) c.in-Binder.x c.in-Binder.t c.sort_of_binder-sort.result (node_at trees c.list.at c.in-Some.k node c.in-Some.is c.read_node-binder.ensures.tree) c.in-Binder.is c.sort_of_binder-sort.ensures
          ∙ c.list.invariant.same large h);
      untyped = c.in_ok-note.ensures.untyped ∙ c.list.invariant.untyped;
    }

pub list-preserved : goal.list-preserved
list-preserved c =
    let trees = c.args.pool.now.trees in
    let node = c.read_node-binder.result in
    record {
      live = child_live (length trees) c.list.at c.in-Some.k node.second c.in-Some.is c.list.invariant.live c.read_node-binder.ensures.second;
      same = λ large h.
          binders_skip large (entries_in trees c.list.self) c.args.path.now c.args.place (tree_at trees (Some c.args.node)) (binder_sort c.args.are_indices) (tree_at trees c.list.at) node.head (tree_at trees node.first) (tree_at trees node.second) (node_at trees c.list.at c.in-Some.k node c.in-Some.is c.read_node-binder.ensures.tree) c.in_default-head.not-Binder
          ∙ c.list.invariant.same large h;
      untyped = c.list.invariant.untyped;
    }

pub returns-clause-entries : goal.returns-clause-entries
returns-clause-entries c = λ large h.
    let trees = c.args.pool.now.trees in
    sym (binders_end large (entries_in trees c.list.self) c.args.path.now c.args.place (tree_at trees (Some c.args.node)) (binder_sort c.args.are_indices) (tree_at trees c.list.at) (empty_at trees c.list.at c.in_default.is)) ∙ c.list.invariant.same large h
