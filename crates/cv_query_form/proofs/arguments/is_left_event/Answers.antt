use Rattle.std.proofs.Common.{◌∙◌}
use Rattle.cv_syntax.specs.PoolTrees.{tree_at}
use Rattle.cv_syntax.specs.NameSets.{is_in}
use Rattle.cv_syntax_trees.specs.Children.{is_empty}
use Rattle.cv_syntax.proofs.Trees.{node_at}
use Rattle.cv_query_form.specs.Tests.{are_distinct}
use Rattle.cv_query_form.proofs.Parts.{and_here, and_nowhere, event_end, event_other, event_passes_law, none_empty}
use Rattle.cv_query_form.proofs.arguments.is_left_event.Goals as goal
use Rattle.cv_query_form.proofs.arguments.is_left_event.Goals.{else-is_none, then-is_none}

pub returns-in_default : goal.returns-in_default
returns-in_default c = event_end (is_in c.args.variables) c.args.pool.now.trees c.args.left c.in_default.is

pub returns-after-is_none : goal.returns-after-is_none
returns-after-is_none c =
    let trees = c.args.pool.now.trees in
    let node = c.read_node-event.result in
    let free = is_in c.args.variables in
    let empty = none_empty trees node.second c.is_none.result c.is_none.ensures c.read_node-event.ensures.no_second in
    event_passes_law free (tree_at trees c.args.left) node.head (tree_at trees node.first) (tree_at trees node.second) c.if-is_none.result (node_at trees c.args.left c.in-Some.k node c.in-Some.is c.read_node-event.ensures.tree) c.in-Occurs.is
    (elim c.if-is_none.branch [
      | then-is_none w ↦ and_here c.is_none.result (is_empty (tree_at trees node.second)) c.if-is_none.result (are_distinct free (tree_at trees node.first)) empty w.if-is_none.true (w.result-is ∙ w.are_distinct.ensures)
      | else-is_none w ↦ and_nowhere c.is_none.result (is_empty (tree_at trees node.second)) c.if-is_none.result (are_distinct free (tree_at trees node.first)) empty w.if-is_none.false w.result-is
    ])

pub returns-in_default-head : goal.returns-in_default-head
returns-in_default-head c =
    let trees = c.args.pool.now.trees in
    let node = c.read_node-event.result in
    event_other (is_in c.args.variables) (tree_at trees c.args.left) node.head (tree_at trees node.first) (tree_at trees node.second) (node_at trees c.args.left c.in-Some.k node c.in-Some.is c.read_node-event.ensures.tree) c.in_default-head.not-Occurs c.in_default-head.not-OccursOnce
