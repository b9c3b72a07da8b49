use Rattle.std.proofs.Common.{length, ap}
use Rattle.cv_syntax.specs.PoolTrees.{tree_at}
use Rattle.cv_syntax.proofs.Trees.{child_live, empty_at}
use Rattle.cv_scene.specs.lines.Lines.{lines_of, statements}
use Rattle.cv_derive_lines.specs.Views.{statement_of}
use Rattle.cv_query_entries.specs.terms.Parts.{part_tree}
use Rattle.cv_query_entries.specs.ends.Said.{said_equal}
use Rattle.cv_query_entries.proofs.ends.Ending.{no_cell_line, other_cell, term_first, that_cell}
use Rattle.cv_query_entries.proofs.ends.Lines.{nothing_said, said_at}
use Rattle.cv_query_entries.proofs.ends.ends.say_cell.Goals as goal

pub returns-in_default : goal.returns-in_default
returns-in_default c =
    let trees = c.args.pool.now.trees in
    no_cell_line (statements (lines_of (tree_at trees c.args.lines))) (said_equal (part_tree trees c.args.left.now c.args.ms) (part_tree trees c.args.right.now c.args.ns)) (tree_at trees c.args.cell) (nothing_said (tree_at trees c.args.lines) (empty_at trees c.args.lines c.in_default.is))

pub returns-in_default-claim_of : goal.returns-in_default-claim_of
returns-in_default-claim_of c =
    let trees = c.args.pool.now.trees in
    let line = c.read_node-line.result in
    term_first (statements (lines_of (tree_at trees c.args.lines))) (said_equal (part_tree trees c.args.left.now c.args.ms) (part_tree trees c.args.right.now c.args.ns)) (tree_at trees c.args.cell) (statement_of trees c.claim_of.result) (statements (lines_of (tree_at trees line.second)))
    (said_at trees c.args.lines c.in-Some.k line c.in-Some.is c.read_node-line.ensures.tree c.line_of.result c.claim_of.result c.line_of.ensures.line c.claim_of.ensures.claim)
    (tree_at trees c.in_default-claim_of.field-0) (ap (statement_of trees) c.in_default-claim_of.is)

pub same-requires-clause-left : goal.same-requires-clause-left
same-requires-clause-left c =
    let n = length c.args.pool.now.trees in
    c.in-IsDefined.ensures.live n (c.line_of.ensures.live n (child_live n c.args.lines c.in-Some.k c.read_node-line.result.first c.in-Some.is c.requires.lines c.read_node-line.ensures.first))

pub returns-then-same : goal.returns-then-same
returns-then-same c =
    let trees = c.args.pool.now.trees in
    let line = c.read_node-line.result in
    that_cell (statements (lines_of (tree_at trees c.args.lines))) (said_equal (part_tree trees c.args.left.now c.args.ms) (part_tree trees c.args.right.now c.args.ns)) (tree_at trees c.args.cell) (statement_of trees c.claim_of.result) (statements (lines_of (tree_at trees line.second)))
    (said_at trees c.args.lines c.in-Some.k line c.in-Some.is c.read_node-line.ensures.tree c.line_of.result c.claim_of.result c.line_of.ensures.line c.claim_of.ensures.claim)
    (tree_at trees c.in-IsDefined.found) (ap (statement_of trees) c.in-IsDefined.is) c.same.result c.same.ensures c.say_equal.result c.say_equal.ensures c.if-same.true

pub returns-else-same : goal.returns-else-same
returns-else-same c =
    let trees = c.args.pool.now.trees in
    let line = c.read_node-line.result in
    other_cell (statements (lines_of (tree_at trees c.args.lines))) (said_equal (part_tree trees c.args.left.now c.args.ms) (part_tree trees c.args.right.now c.args.ns)) (tree_at trees c.args.cell) (statement_of trees c.claim_of.result) (statements (lines_of (tree_at trees line.second)))
    (said_at trees c.args.lines c.in-Some.k line c.in-Some.is c.read_node-line.ensures.tree c.line_of.result c.claim_of.result c.line_of.ensures.line c.claim_of.ensures.claim)
    (tree_at trees c.in-IsDefined.found) (ap (statement_of trees) c.in-IsDefined.is) c.same.result c.same.ensures c.if-same.false
