use Rattle.std.proofs.Common.{◌∙◌}
use Rattle.cv_syntax.specs.PoolTrees.{tree_at}
use Rattle.cv_syntax.proofs.Trees.{empty_at, node_at}
use Rattle.cv_derive_lines.specs.citing.Bookmarks.{visible_to}
use Rattle.cv_derive_lines.proofs.terms.Listing.{two_differ, two_further, two_none}
use Rattle.cv_derive_lines.proofs.terms.congruence.are_both_equal_by.Goals as goal

pub returns-in_default : goal.returns-in_default
returns-in_default c =
    let trees = c.args.pool.now.trees in
    two_none (visible_to trees c.args.citing.now) (tree_at trees c.args.cited_claims) (tree_at trees c.args.left.first) (tree_at trees c.args.right.first) (tree_at trees c.args.left.second) (tree_at trees c.args.right.second) (empty_at trees c.args.cited_claims c.in_default.is)

pub returns-then-not-is_equal_by : goal.returns-then-not-is_equal_by
returns-then-not-is_equal_by c =
    let trees = c.args.pool.now.trees in
    let line = c.read_node-line.result in
    two_differ (visible_to trees c.args.citing.now) (tree_at trees c.args.cited_claims) (tree_at trees c.args.left.first) (tree_at trees c.args.right.first) (tree_at trees c.args.left.second) (tree_at trees c.args.right.second) line.head (tree_at trees line.first) (tree_at trees line.second) (node_at trees c.args.cited_claims c.in-Some.l line c.in-Some.is c.read_node-line.ensures.tree) c.is_equal_by.result c.is_equal_by.ensures c.if-not-is_equal_by.true

pub returns : goal.returns
returns c =
    let trees = c.args.pool.now.trees in
    let line = c.read_node-line.result in
    c.is_only_equal_by.ensures ∙ two_further (visible_to trees c.args.citing.now) (tree_at trees c.args.cited_claims) (tree_at trees c.args.left.first) (tree_at trees c.args.right.first) (tree_at trees c.args.left.second) (tree_at trees c.args.right.second) line.head (tree_at trees line.first) (tree_at trees line.second) (node_at trees c.args.cited_claims c.in-Some.l line c.in-Some.is c.read_node-line.ensures.tree) c.is_equal_by.result c.is_equal_by.ensures c.if-not-is_equal_by.false
