use Rattle.std.proofs.Common.{sym, ◌∙◌}
use Rattle.cv_syntax.specs.PoolTrees.{tree_at}
use Rattle.cv_syntax.proofs.Trees.{empty_at, node_at}
use Rattle.cv_derive_lines.specs.citing.Bookmarks.{visible_to}
use Rattle.cv_derive_lines.proofs.terms.Listing.{only_differs, only_ends, only_none}
use Rattle.cv_derive_lines.proofs.terms.arguments.is_only_equal_by.Goals as goal

pub returns-in_default : goal.returns-in_default
returns-in_default c =
    let trees = c.args.pool.now.trees in
    sym (only_none (visible_to trees c.args.citing.now) (tree_at trees c.args.cited_claim) (tree_at trees c.args.left) (tree_at trees c.args.right) (empty_at trees c.args.cited_claim c.in_default.is))

pub returns-then-not-is_equal_by : goal.returns-then-not-is_equal_by
returns-then-not-is_equal_by c =
    let trees = c.args.pool.now.trees in
    sym (only_differs (visible_to trees c.args.citing.now) (tree_at trees c.args.cited_claim) (tree_at trees c.args.left) (tree_at trees c.args.right) c.read_node-line.result.head (tree_at trees c.read_node-line.result.first) (tree_at trees c.read_node-line.result.second) (node_at trees c.args.cited_claim c.in-Some.l c.read_node-line.result c.in-Some.is c.read_node-line.ensures.tree) c.is_equal_by.result c.is_equal_by.ensures c.if-not-is_equal_by.true)

pub returns : goal.returns
returns c =
    let trees = c.args.pool.now.trees in
    c.is_empty.ensures.test ∙ sym (only_ends (visible_to trees c.args.citing.now) (tree_at trees c.args.cited_claim) (tree_at trees c.args.left) (tree_at trees c.args.right) c.read_node-line.result.head (tree_at trees c.read_node-line.result.first) (tree_at trees c.read_node-line.result.second) (node_at trees c.args.cited_claim c.in-Some.l c.read_node-line.result c.in-Some.is c.read_node-line.ensures.tree) c.is_equal_by.result c.is_equal_by.ensures c.if-not-is_equal_by.false)
