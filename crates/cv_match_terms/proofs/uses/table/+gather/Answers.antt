use Rattle.std.proofs.Common.{rules, ◌≡◌, ◌<◌, ◌^◌, arith, ap, length, refl, subst, sym, ◌∙◌}
use Rattle.cv_syntax.specs.PoolTrees.{tree_at}
use Rattle.cv_syntax.specs.Walks.{above}
use Rattle.cv_syntax.proofs.Trees.{child_above, child_live, empty_at, node_at}
use Rattle.cv_syntax.proofs.Walking.{above_child, above_some}
use Rattle.cv_scope_rules.specs.Context.{replications_below}
use Rattle.cv_match_terms.specs.uses.Tallies.{Tally, plus, tally_at, tally_here}
use Rattle.cv_match_terms.proofs.uses.Walked.{front_kept, room_first, room_here, tally_end, tally_node}
use Rattle.cv_match_terms.proofs.uses.table.+gather.Goals as goal

pub note_node-requires-clause-room : goal.note_node-requires-clause-room
note_node-requires-clause-room t c = λ y.
    let trees = c.args.pool.now.trees in
    let node = c.read_node-node.result in
    let room = subst (λ (u : Tally). u.uses < 2 ^ 32) (sym (c.tree.invariant.same y)) (c.requires.room y) in
    room_here c.tree.passed.items y (tree_at trees c.tree.at) node.head (tree_at trees node.first) (tree_at trees node.second) (node_at trees c.tree.at c.in-Some.k node c.in-Some.is c.read_node-node.ensures.tree) (tally_at c.tree.entries.items y) room

pub gather-requires : goal.gather-requires
gather-requires t c =
    let trees = c.args.pool.now.trees in
    let node = c.read_node-node.result in
    let e = node_at trees c.tree.at c.in-Some.k node c.in-Some.is c.read_node-node.ensures.tree in
    let k = above_some c.tree.at c.in-Some.k c.in-Some.is in
    let b = above_child c.in-Some.k.0 node.first c.read_node-node.ensures.first in
    let less : above node.first < above c.args.tree = omega (arith, k, b, c.tree.invariant.less) in
    let rs = c.tree.passed.items in (
      search rules,
      (
        child_live (length trees) c.tree.at c.in-Some.k node.first c.in-Some.is c.tree.invariant.live c.read_node-node.ensures.first,
        λ y.
            let room = subst (λ (u : Tally). u.uses < 2 ^ 32) (sym (c.tree.invariant.same y)) (c.requires.room y) in
            let f = c.in_ok-note_node.ensures y ∙ ap (λ l. plus (tally_at c.tree.entries.items y) (tally_here l y node.head (tree_at trees node.first))) c.as_slice.ensures.value in
            room_first rs y (tree_at trees c.tree.at) node.head (tree_at trees node.first) (tree_at trees node.second) e (tally_at c.tree.entries.items y) room (tally_at c.note_node.new.entries.items y) rs f refl,
      ),
    )

pub tree-preserved : goal.tree-preserved
tree-preserved t c =
    let trees = c.args.pool.now.trees in
    let node = c.read_node-node.result in
    let rs = c.tree.passed.items in
    let e = node_at trees c.tree.at c.in-Some.k node c.in-Some.is c.read_node-node.ensures.tree in
    let few : c.len-outside.result ≡ length c.args.passed.now.items = search rules in
    let q = c.in_ok-pass_replication.ensures ∙ ap (replications_below node.head) c.in_ok-gather.ensures.passed in
    record {
      live = child_live (length trees) c.tree.at c.in-Some.k node.second c.in-Some.is c.tree.invariant.live c.read_node-node.ensures.second;
      less = child_above _ c.tree.at c.in-Some.k node.second c.in-Some.is c.tree.invariant.less c.read_node-node.ensures.second;
      front = front_kept node.head c.len-outside.result rs c.pass_replication.new.passed.items c.args.passed.now.items q few c.tree.invariant.front;
      same = λ y.
          let f = c.in_ok-note_node.ensures y ∙ ap (λ l. plus (tally_at c.tree.entries.items y) (tally_here l y node.head (tree_at trees node.first))) c.as_slice.ensures.value in
          tally_node rs y (tree_at trees c.tree.at) node.head (tree_at trees node.first) (tree_at trees node.second) e (tally_at c.tree.entries.items y) (tally_at c.note_node.new.entries.items y) (tally_at c.gather.new.entries.items y) rs c.pass_replication.new.passed.items f refl (c.in_ok-gather.ensures.tallies y) q
          ∙ c.tree.invariant.same y;
    }

pub returns-clause-tallies : goal.returns-clause-tallies
returns-clause-tallies t c = λ y.
    tally_end c.tree.passed.items y (tree_at c.args.pool.now.trees c.tree.at) (tally_at c.tree.entries.items y) (empty_at c.args.pool.now.trees c.tree.at c.in_default.is) ∙ c.tree.invariant.same y
