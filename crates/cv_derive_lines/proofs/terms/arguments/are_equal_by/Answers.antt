use Rattle.std.proofs.Common.{length, sym, ◌∙◌}
use Rattle.cv_syntax.specs.PoolTrees.{tree_at}
use Rattle.cv_syntax.proofs.Trees.{child_live, empty_at, node_at}
use Rattle.cv_derive_lines.specs.citing.Bookmarks.{visible_to}
use Rattle.cv_derive_lines.proofs.terms.Listing.{differ, ends_right, further, more_left, no_left, no_right}
use Rattle.cv_derive_lines.proofs.terms.arguments.are_equal_by.Goals as goal

pub returns-in_default-first : goal.returns-in_default-first
returns-in_default-first c =
    let trees = c.args.pool.now.trees in
    sym (no_left (visible_to trees c.args.citing.now) (tree_at trees c.lines.at) (tree_at trees c.lines.first) (tree_at trees c.lines.second) _ _ _ (node_at trees c.lines.at c.in-Some.l c.read_node-line.result c.in-Some.is c.read_node-line.ensures.tree) (empty_at trees c.lines.first c.in_default-first.is)) ∙ c.lines.invariant.same

pub returns-in_default-second : goal.returns-in_default-second
returns-in_default-second c =
    let trees = c.args.pool.now.trees in
    sym (no_right (visible_to trees c.args.citing.now) (tree_at trees c.lines.at) (tree_at trees c.lines.first) (tree_at trees c.lines.second) _ _ _ _ _ _ (node_at trees c.lines.at c.in-Some.l c.read_node-line.result c.in-Some.is c.read_node-line.ensures.tree) (node_at trees c.lines.first c.in-Some-first.m c.read_node-here.result c.in-Some-first.is c.read_node-here.ensures.tree) (empty_at trees c.lines.second c.in_default-second.is)) ∙ c.lines.invariant.same

pub returns-then-not-is_equal_by : goal.returns-then-not-is_equal_by
returns-then-not-is_equal_by c =
    let trees = c.args.pool.now.trees in
    sym (differ (visible_to trees c.args.citing.now) (tree_at trees c.lines.at) (tree_at trees c.lines.first) (tree_at trees c.lines.second) c.read_node-line.result.head c.read_node-here.result.head c.read_node-there.result.head (tree_at trees c.read_node-line.result.first) (tree_at trees c.read_node-line.result.second) (tree_at trees c.read_node-here.result.first) (tree_at trees c.read_node-here.result.second) (tree_at trees c.read_node-there.result.first) (tree_at trees c.read_node-there.result.second) (node_at trees c.lines.at c.in-Some.l c.read_node-line.result c.in-Some.is c.read_node-line.ensures.tree) (node_at trees c.lines.first c.in-Some-first.m c.read_node-here.result c.in-Some-first.is c.read_node-here.ensures.tree) (node_at trees c.lines.second c.in-Some-second.k c.read_node-there.result c.in-Some-second.is c.read_node-there.ensures.tree) c.is_equal_by.result c.is_equal_by.ensures c.if-not-is_equal_by.true) ∙ c.lines.invariant.same

pub lines-preserved : goal.lines-preserved
lines-preserved c =
    let trees = c.args.pool.now.trees in
    record {
      live = child_live (length trees) c.lines.at c.in-Some.l c.read_node-line.result.second c.in-Some.is c.lines.invariant.live c.read_node-line.ensures.second;
      first = child_live (length trees) c.lines.first c.in-Some-first.m c.read_node-here.result.second c.in-Some-first.is c.lines.invariant.first c.read_node-here.ensures.second;
      second = child_live (length trees) c.lines.second c.in-Some-second.k c.read_node-there.result.second c.in-Some-second.is c.lines.invariant.second c.read_node-there.ensures.second;
      same = further (visible_to trees c.args.citing.now) (tree_at trees c.lines.at) (tree_at trees c.lines.first) (tree_at trees c.lines.second) c.read_node-line.result.head c.read_node-here.result.head c.read_node-there.result.head (tree_at trees c.read_node-line.result.first) (tree_at trees c.read_node-line.result.second) (tree_at trees c.read_node-here.result.first) (tree_at trees c.read_node-here.result.second) (tree_at trees c.read_node-there.result.first) (tree_at trees c.read_node-there.result.second) (node_at trees c.lines.at c.in-Some.l c.read_node-line.result c.in-Some.is c.read_node-line.ensures.tree) (node_at trees c.lines.first c.in-Some-first.m c.read_node-here.result c.in-Some-first.is c.read_node-here.ensures.tree) (node_at trees c.lines.second c.in-Some-second.k c.read_node-there.result c.in-Some-second.is c.read_node-there.ensures.tree) c.is_equal_by.result c.is_equal_by.ensures c.if-not-is_equal_by.false ∙ c.lines.invariant.same;
    }

pub returns-then-not-is_empty : goal.returns-then-not-is_empty
returns-then-not-is_empty c =
    let trees = c.args.pool.now.trees in
    sym (more_left (visible_to trees c.args.citing.now) (tree_at trees c.lines.at) (tree_at trees c.lines.first) (tree_at trees c.lines.second) (empty_at trees c.lines.at c.in_default.is) (sym c.is_empty.ensures.test ∙ c.if-not-is_empty.true)) ∙ c.lines.invariant.same

pub returns : goal.returns
returns c =
    let trees = c.args.pool.now.trees in
    c.is_empty-2.ensures.test ∙ (sym (ends_right (visible_to trees c.args.citing.now) (tree_at trees c.lines.at) (tree_at trees c.lines.first) (tree_at trees c.lines.second) (empty_at trees c.lines.at c.in_default.is) (sym c.is_empty.ensures.test ∙ c.if-not-is_empty.false)) ∙ c.lines.invariant.same)
