use Rattle.std.proofs.Common.{false, refl, sym, ap, ◌∙◌, Some}
use Rattle.cv_syntax_trees.specs.declared.head.Head.TheVariants.{Eq, Leaf}
use Rattle.cv_syntax_trees.specs.Tree.{Node, lone}
use Rattle.cv_syntax.specs.PoolTrees.{tree_at}
use Rattle.cv_syntax.proofs.Trees.{empty_at, node_at}
use Rattle.cv_derive_lines.specs.citing.Bookmarks.{visible_to}
use Rattle.cv_derive.proofs.Current.{left_itself, left_nothing, left_rest, next_first, next_none, rest_behind}
use Rattle.cv_derive.proofs.indices.lines_behind.Goals as goal

pub returns-then-is_alone-clause-left : goal.returns-then-is_alone-clause-left
returns-then-is_alone-clause-left c =
    let trees = c.args.pool.now.trees in
    left_itself (visible_to trees c.args.citing.now) c.args.index (tree_at trees c.args.term) (tree_at trees c.args.lines) c.is_alone.result c.is_alone.ensures c.if-is_alone.true

pub returns-in_default-clause-left : goal.returns-in_default-clause-left
returns-in_default-clause-left c =
    let trees = c.args.pool.now.trees in
    left_nothing (visible_to trees c.args.citing.now) c.args.index (tree_at trees c.args.term) (tree_at trees c.args.lines) c.is_alone.result false c.is_alone.ensures c.if-is_alone.false (sym (next_none (visible_to trees c.args.citing.now) (tree_at trees c.args.lines) (Node Eq (tree_at trees c.args.term) (lone (Leaf c.args.index))) (empty_at trees c.args.lines c.in_default.is))) refl

pub returns-then-not-is_index_by-clause-left : goal.returns-then-not-is_index_by-clause-left
returns-then-not-is_index_by-clause-left c =
    let trees = c.args.pool.now.trees in
    let line = c.read_node-line.result in
    let e = node_at trees c.args.lines c.in-Some.n line c.in-Some.is c.read_node-line.ensures.tree in
    left_nothing (visible_to trees c.args.citing.now) c.args.index (tree_at trees c.args.term) (tree_at trees c.args.lines) c.is_alone.result c.is_index_by.result c.is_alone.ensures c.if-is_alone.false (c.is_index_by.ensures ∙ sym (next_first (visible_to trees c.args.citing.now) (tree_at trees c.args.lines) line.head (tree_at trees line.first) (tree_at trees line.second) (Node Eq (tree_at trees c.args.term) (lone (Leaf c.args.index))) e)) c.if-not-is_index_by.true

pub returns-clause-left : goal.returns-clause-left
returns-clause-left c =
    let trees = c.args.pool.now.trees in
    let line = c.read_node-line.result in
    let e = node_at trees c.args.lines c.in-Some.n line c.in-Some.is c.read_node-line.ensures.tree in
    ap Some (sym (rest_behind (tree_at trees c.args.lines) line.head (tree_at trees line.first) (tree_at trees line.second) e))
    ∙ left_rest (visible_to trees c.args.citing.now) c.args.index (tree_at trees c.args.term) (tree_at trees c.args.lines) c.is_alone.result c.is_index_by.result c.is_alone.ensures c.if-is_alone.false (c.is_index_by.ensures ∙ sym (next_first (visible_to trees c.args.citing.now) (tree_at trees c.args.lines) line.head (tree_at trees line.first) (tree_at trees line.second) (Node Eq (tree_at trees c.args.term) (lone (Leaf c.args.index))) e)) c.if-not-is_index_by.false
