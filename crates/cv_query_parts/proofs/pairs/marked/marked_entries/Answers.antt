use Rattle.std.proofs.Common.{IfSome, Option, length, subst}
use Rattle.cv_syntax.specs.PoolTrees.{tree_at}
use Rattle.cv_syntax.proofs.Trees.{child_live, empty_at, node_at}
use Rattle.cv_query_parts.specs.Views.{asked_of}
use Rattle.cv_query_parts.specs.declared.pairs.marked.MarkedEntry.{MarkedEntry}
use Rattle.cv_query_parts.specs.pairs.Marked.{IsEntryBelow}
use Rattle.cv_query_parts.proofs.pairs.Meeting.{one_more}
use Rattle.cv_query_parts.proofs.pairs.Reaching.{entries_end, entry_found, no_entry}
use Rattle.cv_query_parts.proofs.pairs.marked.marked_entries.Goals as goal

pub parts-preserved-in_ok-push : goal.parts-preserved-in_ok-push
parts-preserved-in_ok-push c =
    let trees = c.args.pool.now.trees in
    let cell = c.read_node-cell.result in
    let e = node_at trees c.parts.at c.in-Some.n cell c.in-Some.is c.read_node-cell.ensures.tree in
    record {
      live = child_live (length trees) c.parts.at c.in-Some.n cell.second c.in-Some.is c.parts.invariant.live c.read_node-cell.ensures.second;
      below = one_more (IsEntryBelow (length trees)) c.parts.found.items c.push.new.self.items c.in-Some-2.entry c.parts.invariant.below (subst (λ (o : Option MarkedEntry). IfSome o (IsEntryBelow (length trees))) c.in-Some-2.is c.in_ok-entry.ensures.live) c.in_ok-push.ensures.items;
      same = λ s. entry_found s (asked_of trees c.args.asked.now) trees c.parts.found.items (tree_at trees c.parts.at) _ (c.parts.invariant.same s) cell.head (tree_at trees cell.first) (tree_at trees cell.second) e c.in_ok-entry.field-0 (c.in_ok-entry.ensures.ends s) c.in-Some-2.entry c.push.new.self.items c.in-Some-2.is c.in_ok-push.ensures.items;
    }

pub parts-preserved : goal.parts-preserved
parts-preserved c =
    let trees = c.args.pool.now.trees in
    let cell = c.read_node-cell.result in
    let e = node_at trees c.parts.at c.in-Some.n cell c.in-Some.is c.read_node-cell.ensures.tree in
    record {
      live = child_live (length trees) c.parts.at c.in-Some.n cell.second c.in-Some.is c.parts.invariant.live c.read_node-cell.ensures.second;
      below = c.parts.invariant.below;
      same = λ s. no_entry s (asked_of trees c.args.asked.now) trees c.parts.found.items (tree_at trees c.parts.at) _ (c.parts.invariant.same s) cell.head (tree_at trees cell.first) (tree_at trees cell.second) e c.in_ok-entry.field-0 (c.in_ok-entry.ensures.ends s) c.in_default-2.is;
    }

pub returns-clause-ends : goal.returns-clause-ends
returns-clause-ends c =
    let trees = c.args.pool.now.trees in
    λ s. entries_end s (asked_of trees c.args.asked.now) trees c.parts.found.items (tree_at trees c.parts.at) _ (c.parts.invariant.same s) (empty_at trees c.parts.at c.in_default.is)
