use Rattle.std.proofs.Common.{rules, ◌+◌, ◌<◌, ◌≤◌, ◌++◌, ◌∷◌, [], length, take, Some, ap, sym, ◌∙◌, arith, length-append}
use Rattle.std.proofs.lemmas.List.{take-append-le}
use Rattle.cv_syntax.specs.PoolTrees.{tree_at}
use Rattle.cv_syntax.specs.Walks.{above as rank}
use Rattle.cv_syntax.proofs.Walking.{above_child, above_some, size_at, size_end}
use Rattle.cv_directory.specs.Definitions.{definitions_at, large_in, replications_below}
use Rattle.cv_syntax_trees.specs.sites.Sites.{index_here}
use Rattle.cv_directory.specs.Tables.{entries_in, untyped_of, with_entries}
use Rattle.cv_directory.proofs.Entries.{below_other, gather_step, tree_end}
use Rattle.cv_syntax.proofs.Trees.{child_above, child_live, empty_at, node_at}
use Rattle.cv_directory.proofs.Noting.{untyped_end, untyped_step}
use Rattle.cv_directory.proofs.directory.Directory.+gather.Goals as goal

pub note_node-requires : goal.note_node-requires
note_node-requires t c = record {
  first = child_live (length c.args.pool.now.trees) c.tree.at c.in-Some.k c.read_node-node.result.first c.in-Some.is c.tree.invariant.live c.read_node-node.ensures.first;
  tree = c.read_node-node.ensures.tree;
}

pub overflow_add-place : goal.overflow_add-place
overflow_add-place t c =
    let s = size_at c.args.pool.now.trees c.tree.at c.in-Some.k c.read_node-node.result c.in-Some.is c.read_node-node.ensures.tree in
    omega (arith, s, c.tree.invariant.sum, c.requires.fits, c.weight-place.ensures.weight)

pub gather-requires : goal.gather-requires
gather-requires t c =
    let trees = c.args.pool.now.trees in
    let node = c.read_node-node.result in
    let s = size_at trees c.tree.at c.in-Some.k node c.in-Some.is c.read_node-node.ensures.tree in
    let here = above_some c.tree.at c.in-Some.k c.in-Some.is in
    let below = above_child c.in-Some.k.0 node.first c.read_node-node.ensures.first in
    let less : rank node.first < rank c.args.tree = omega (arith, here, below, c.tree.invariant.less) in
    (search rules, (child_live (length trees) c.tree.at c.in-Some.k node.first c.in-Some.is c.tree.invariant.live c.read_node-node.ensures.first, omega (arith, s, c.tree.invariant.sum, c.requires.fits, c.weight-place.ensures.weight)))

pub tree-preserved-in_ok-push : goal.tree-preserved-in_ok-push
tree-preserved-in_ok-push t c =
    let trees = c.args.pool.now.trees in
    let node = c.read_node-node.result in
    let s = size_at trees c.tree.at c.in-Some.k node c.in-Some.is c.read_node-node.ensures.tree in
    let path = c.in_ok-push.ensures.items ∙ ap (λ l. l ++ (c.in-Repl.i, c.in-Repl.n) ∷ []) c.in_ok-place.ensures.path in
    let below = path ∙ sym (ap (λ h. replications_below h c.tree.path.items) c.in-Repl.is) in
    let long : c.len-above.result ≤ length c.tree.path.items = c.tree.invariant.long in
    record {
      live = child_live (length trees) c.tree.at c.in-Some.k node.second c.in-Some.is c.tree.invariant.live c.read_node-node.ensures.second;
      same = gather_step (large_in c.args.decls.now.list) (entries_in trees c.tree.self) (entries_in trees c.note_node.new.self) (entries_in trees c.gather.new.self) _ c.as_slice.result.now c.tree.path.items c.push.new.self.items c.tree.place (c.tree.place + c.weight-place.result) c.in_ok-place.place (tree_at trees c.tree.at) (tree_at trees (Some c.in-Some.k)) node.head (tree_at trees node.first) (tree_at trees node.second) (ap (tree_at trees) c.in-Some.is) c.read_node-node.ensures.tree c.as_slice.ensures.value (c.in_ok-note_node.ensures.entries ∙ ap (λ es. with_entries (large_in c.args.decls.now.list) (entries_in trees (record { entries = es; untyped = c.note_untyped.new.self.untyped })) (λ y. definitions_at c.as_slice.result.now c.tree.place (tree_at trees (Some c.in-Some.k)) y node.head (tree_at trees node.first)) (λ i. index_here i node.head)) c.in_ok-note_untyped.ensures.entries) (ap (λ n. c.tree.place + n) c.weight-place.ensures.weight) c.in_ok-place.ensures.entries c.in_ok-place.ensures.next below c.tree.invariant.same;
      untyped = λ x. untyped_step x (tree_at trees c.tree.at) node.head (tree_at trees node.first) (tree_at trees node.second) (untyped_of c.tree.self.untyped x) _ _ (node_at trees c.tree.at c.in-Some.k node c.in-Some.is c.read_node-node.ensures.tree) (ap (λ m. untyped_of m x) c.in_ok-note_node.ensures.untyped ∙ c.in_ok-note_untyped.ensures.untyped x) (c.in_ok-place.ensures.untyped x) ∙ c.tree.invariant.untyped x;
      sum = omega (arith, s, c.tree.invariant.sum, c.weight-place.ensures.weight, c.in_ok-place.ensures.next);
      front = ap (take c.len-above.result) path ∙ (take-append-le c.len-above.result c.tree.path.items ((c.in-Repl.i, c.in-Repl.n) ∷ []) long ∙ c.tree.invariant.front);
      long = omega (arith, ap length path, length-append c.tree.path.items ((c.in-Repl.i, c.in-Repl.n) ∷ []));
      less = child_above _ c.tree.at c.in-Some.k node.second c.in-Some.is c.tree.invariant.less c.read_node-node.ensures.second;
    }

pub tree-preserved : goal.tree-preserved
tree-preserved t c =
    let trees = c.args.pool.now.trees in
    let node = c.read_node-node.result in
    let s = size_at trees c.tree.at c.in-Some.k node c.in-Some.is c.read_node-node.ensures.tree in
    let path = c.in_ok-place.ensures.path in
    let below = path ∙ sym (below_other node.head c.tree.path.items c.in_default-head.not-Repl) in
    record {
      live = child_live (length trees) c.tree.at c.in-Some.k node.second c.in-Some.is c.tree.invariant.live c.read_node-node.ensures.second;
      same = gather_step (large_in c.args.decls.now.list) (entries_in trees c.tree.self) (entries_in trees c.note_node.new.self) (entries_in trees c.gather.new.self) _ c.as_slice.result.now c.tree.path.items c.gather.new.path.items c.tree.place (c.tree.place + c.weight-place.result) c.in_ok-place.place (tree_at trees c.tree.at) (tree_at trees (Some c.in-Some.k)) node.head (tree_at trees node.first) (tree_at trees node.second) (ap (tree_at trees) c.in-Some.is) c.read_node-node.ensures.tree c.as_slice.ensures.value (c.in_ok-note_node.ensures.entries ∙ ap (λ es. with_entries (large_in c.args.decls.now.list) (entries_in trees (record { entries = es; untyped = c.note_untyped.new.self.untyped })) (λ y. definitions_at c.as_slice.result.now c.tree.place (tree_at trees (Some c.in-Some.k)) y node.head (tree_at trees node.first)) (λ i. index_here i node.head)) c.in_ok-note_untyped.ensures.entries) (ap (λ n. c.tree.place + n) c.weight-place.ensures.weight) c.in_ok-place.ensures.entries c.in_ok-place.ensures.next below c.tree.invariant.same;
      untyped = λ x. untyped_step x (tree_at trees c.tree.at) node.head (tree_at trees node.first) (tree_at trees node.second) (untyped_of c.tree.self.untyped x) _ _ (node_at trees c.tree.at c.in-Some.k node c.in-Some.is c.read_node-node.ensures.tree) (ap (λ m. untyped_of m x) c.in_ok-note_node.ensures.untyped ∙ c.in_ok-note_untyped.ensures.untyped x) (c.in_ok-place.ensures.untyped x) ∙ c.tree.invariant.untyped x;
      sum = omega (arith, s, c.tree.invariant.sum, c.weight-place.ensures.weight, c.in_ok-place.ensures.next);
      front = ap (take c.len-above.result) path ∙ c.tree.invariant.front;
      long = omega (arith, ap length path);
      less = child_above _ c.tree.at c.in-Some.k node.second c.in-Some.is c.tree.invariant.less c.read_node-node.ensures.second;
    }

pub returns-clause-entries : goal.returns-clause-entries
returns-clause-entries t c = sym (tree_end (large_in c.args.decls.now.list) (entries_in c.args.pool.now.trees c.tree.self) c.tree.path.items c.tree.place (tree_at c.args.pool.now.trees c.tree.at) (empty_at c.args.pool.now.trees c.tree.at c.in_default.is)) ∙ c.tree.invariant.same

pub returns-clause-next : goal.returns-clause-next
returns-clause-next t c = omega (arith, c.tree.invariant.sum, size_end c.args.pool.now.trees c.tree.at c.in_default.is)

pub returns-clause-untyped : goal.returns-clause-untyped
returns-clause-untyped t c = λ x. untyped_end x (tree_at c.args.pool.now.trees c.tree.at) (untyped_of c.tree.self.untyped x) (empty_at c.args.pool.now.trees c.tree.at c.in_default.is) ∙ c.tree.invariant.untyped x
