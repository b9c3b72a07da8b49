use Rattle.std.proofs.Common.{◌≡◌, ◌&&◌, ◌∙◌, Some, refl}
use Rattle.cv_syntax.specs.PoolTrees.{tree_at}
use Rattle.cv_syntax_trees.specs.Children.{is_empty}
use Rattle.cv_directory.specs.Tables.{seen}
use Rattle.cv_query_form.specs.Held.{correspondence_passes, valued}
use Rattle.cv_query_form.specs.Tests.{passes}
use Rattle.cv_query_form.proofs.Parts.{and_here, and_nowhere, none_empty, ok_same, passes_other, passes_query, passes_secret}
use Rattle.cv_query_form.proofs.query.may_be_asked.Goals as goal
use Rattle.cv_query_form.proofs.query.may_be_asked.Goals.{else-is_none, then-is_none}

pub returns-in-Query : goal.returns-in-Query
returns-in-Query c =
    let trees = c.args.pool.now.trees in
    let node = c.read_node-node.result in
    let asked = passes (valued (seen c.args.sites.now)) (tree_at trees (Some c.args.query)) in
    ok_same c.correspondence_may_be_asked.result (correspondence_passes (tree_at trees node.first) (tree_at trees node.second)) asked (passes_query (valued (seen c.args.sites.now)) (tree_at trees (Some c.args.query)) node.head (tree_at trees node.first) (tree_at trees node.second) c.read_node-node.ensures.tree c.in-Query.is) c.correspondence_may_be_asked.ensures

pub returns-in_default : goal.returns-in_default
returns-in_default c =
    let trees = c.args.pool.now.trees in
    let node = c.read_node-node.result in
    passes_other (valued (seen c.args.sites.now)) (tree_at trees (Some c.args.query)) node.head (tree_at trees node.first) (tree_at trees node.second) c.read_node-node.ensures.tree c.in_default.not-Query c.in_default.not-Secret c.in_default.not-SecretOnce

pub returns-then-is_none-2 : goal.returns-then-is_none-2
returns-then-is_none-2 c =
    let trees = c.args.pool.now.trees in
    let node = c.read_node-node.result in
    let a = is_empty (tree_at trees node.first) in
    let b = is_empty (tree_at trees node.second) in
    let first = none_empty trees node.first c.is_none.result c.is_none.ensures c.read_node-node.ensures.no_first in
    let both : c.if-is_none.value ≡ (a && b) = elim c.if-is_none.branch [
      | then-is_none w ↦ and_here c.is_none.result a c.if-is_none.value b first w.if-is_none.true (w.value-is ∙ none_empty trees node.second w.is_none-then-is_none.result w.is_none-then-is_none.ensures c.read_node-node.ensures.no_second)
      | else-is_none w ↦ and_nowhere c.is_none.result a c.if-is_none.value b first w.if-is_none.false w.value-is
    ] in
    passes_secret (valued (seen c.args.sites.now)) (tree_at trees (Some c.args.query)) node.head (tree_at trees node.first) (tree_at trees node.second) c.in-Secret.x c.has_values.result c.read_node-node.ensures.tree c.in-Secret.is
    (and_here c.if-is_none.value (a && b) c.has_values.result (valued (seen c.args.sites.now) c.in-Secret.x) both c.if-is_none-2.true c.has_values.ensures)

pub returns-else-is_none-2 : goal.returns-else-is_none-2
returns-else-is_none-2 c =
    let trees = c.args.pool.now.trees in
    let node = c.read_node-node.result in
    let a = is_empty (tree_at trees node.first) in
    let b = is_empty (tree_at trees node.second) in
    let first = none_empty trees node.first c.is_none.result c.is_none.ensures c.read_node-node.ensures.no_first in
    let both : c.if-is_none.value ≡ (a && b) = elim c.if-is_none.branch [
      | then-is_none w ↦ and_here c.is_none.result a c.if-is_none.value b first w.if-is_none.true (w.value-is ∙ none_empty trees node.second w.is_none-then-is_none.result w.is_none-then-is_none.ensures c.read_node-node.ensures.no_second)
      | else-is_none w ↦ and_nowhere c.is_none.result a c.if-is_none.value b first w.if-is_none.false w.value-is
    ] in
    passes_secret (valued (seen c.args.sites.now)) (tree_at trees (Some c.args.query)) node.head (tree_at trees node.first) (tree_at trees node.second) c.in-Secret.x c.if-is_none.value c.read_node-node.ensures.tree c.in-Secret.is
    (and_nowhere c.if-is_none.value (a && b) c.if-is_none.value (valued (seen c.args.sites.now) c.in-Secret.x) both c.if-is_none-2.false refl)
