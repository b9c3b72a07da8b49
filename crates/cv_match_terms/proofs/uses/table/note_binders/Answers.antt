use Rattle.std.proofs.Common.{ap, length, sym, ◌∙◌}
use Rattle.cv_syntax.specs.PoolTrees.{tree_at}
use Rattle.cv_syntax.proofs.Trees.{child_live, empty_at, node_at}
use Rattle.cv_match_terms.specs.uses.Tallies.{plus, tally_at}
use Rattle.cv_match_terms.proofs.uses.Joining.{bound_end, bound_more, bound_other, plus_nothing}
use Rattle.cv_match_terms.proofs.uses.table.note_binders.Goals as goal

pub returns-in_default-head : goal.returns-in_default-head
returns-in_default-head c = λ y.
    let trees = c.args.pool.now.trees in
    let node = c.read_node-node.result in
    let s = tally_at c.list.entries.items y in
    sym (plus_nothing s) ∙ (ap (plus s) (bound_other y (tree_at trees c.list.at) node.head (tree_at trees node.first) (tree_at trees node.second) (node_at trees c.list.at c.in-Some.k node c.in-Some.is c.read_node-node.ensures.tree) c.in_default-head.not-Binder) ∙ c.list.invariant.same y)

pub list-preserved : goal.list-preserved
list-preserved c =
    let trees = c.args.pool.now.trees in
    let node = c.read_node-node.result in
    record {
      live = child_live (length trees) c.list.at c.in-Some.k node.second c.in-Some.is c.list.invariant.live c.read_node-node.ensures.second;
      same = λ y.
          bound_more y (tree_at trees c.list.at) node.head (tree_at trees node.first) (tree_at trees node.second) (node_at trees c.list.at c.in-Some.k node c.in-Some.is c.read_node-node.ensures.tree) c.in-Binder.x c.in-Binder.field-1 c.in-Binder.is (tally_at c.list.entries.items y) (tally_at c.note_other.new.entries.items y) (c.in_ok-note_other.ensures y)
          ∙ c.list.invariant.same y;
    }

pub returns : goal.returns
returns c = λ y.
    let s = tally_at c.list.entries.items y in
    sym (plus_nothing s) ∙ (ap (plus s) (bound_end y (tree_at c.args.pool.now.trees c.list.at) (empty_at c.args.pool.now.trees c.list.at c.in_default.is)) ∙ c.list.invariant.same y)
