use Rattle.std.proofs.Common.{length, refl, sym, ◌∙◌}
use Rattle.cv_syntax.specs.PoolTrees.{tree_at}
use Rattle.cv_syntax.proofs.Trees.{child_live, empty_at}
use Rattle.cv_scene.specs.lines.Lines.{lines_of, statements}
use Rattle.cv_derive_lines.specs.Views.{statement_of}
use Rattle.cv_query_entries.specs.terms.Parts.{part_tree}
use Rattle.cv_query_entries.specs.ends.Said.{said_equal}
use Rattle.cv_query_entries.proofs.ends.Ending.{next_lines, no_line, none_equal, none_left, nothing_left, other_line}
use Rattle.cv_query_entries.proofs.ends.Lines.{nothing_said, said_at}
use Rattle.cv_query_entries.proofs.ends.ends.say_equal.Goals as goal

pub returns-in_default-read_part : goal.returns-in_default-read_part
returns-in_default-read_part c =
    let trees = c.args.pool.now.trees in
    let x = c.in-Some.x in
    let s = part_tree trees c.args.left.now c.pairs.m in
    let t = part_tree trees c.args.right.now c.pairs.n in
    nothing_left (statements (lines_of (tree_at trees c.pairs.at))) (tree_at trees c.pairs.at) c.is_empty.result (said_equal s t) refl (none_left s t x.head (part_tree trees c.args.left.now x.first) (part_tree trees c.args.left.now x.second) c.in-Some.ensures.tree c.in_default-read_part.ensures.none) c.is_empty.ensures.test ∙ c.pairs.invariant.same

pub returns-in_default-at : goal.returns-in_default-at
returns-in_default-at c =
    let trees = c.args.pool.now.trees in
    let x = c.in-Some.x in
    let y = c.in-Some-read_part.y in
    sym (no_line (part_tree trees c.args.left.now c.pairs.m) (part_tree trees c.args.right.now c.pairs.n) x.head y.head (part_tree trees c.args.left.now x.first) (part_tree trees c.args.left.now x.second) (part_tree trees c.args.right.now y.first) (part_tree trees c.args.right.now y.second) c.in-Some.ensures.tree c.in-Some-read_part.ensures.tree (statements (lines_of (tree_at trees c.pairs.at))) (nothing_said (tree_at trees c.pairs.at) (empty_at trees c.pairs.at c.in_default-at.is))) ∙ c.pairs.invariant.same

pub says_equal-requires-clause-claim : goal.says_equal-requires-clause-claim
says_equal-requires-clause-claim c =
    let n = length c.args.pool.now.trees in
    c.claim_of-claim.ensures.live n (c.line_of.ensures.live n (child_live n c.pairs.at c.in-Some-at.k c.read_node-line.result.first c.in-Some-at.is c.pairs.invariant.live c.read_node-line.ensures.first))

pub returns-then-not-says_equal : goal.returns-then-not-says_equal
returns-then-not-says_equal c =
    let trees = c.args.pool.now.trees in
    let x = c.in-Some.x in
    let y = c.in-Some-read_part.y in
    let line = c.read_node-line.result in
    sym (other_line (part_tree trees c.args.left.now c.pairs.m) (part_tree trees c.args.right.now c.pairs.n) x.head y.head (part_tree trees c.args.left.now x.first) (part_tree trees c.args.left.now x.second) (part_tree trees c.args.right.now y.first) (part_tree trees c.args.right.now y.second) c.in-Some.ensures.tree c.in-Some-read_part.ensures.tree (statements (lines_of (tree_at trees c.pairs.at))) (statement_of trees c.claim_of-claim.result) (statements (lines_of (tree_at trees line.second))) (said_at trees c.pairs.at c.in-Some-at.k line c.in-Some-at.is c.read_node-line.ensures.tree c.line_of.result c.claim_of-claim.result c.line_of.ensures.line c.claim_of-claim.ensures.claim) c.says_equal.result c.says_equal.ensures c.if-not-says_equal.true) ∙ c.pairs.invariant.same

pub pairs-preserved : goal.pairs-preserved
pairs-preserved c =
    let trees = c.args.pool.now.trees in
    let x = c.in-Some.x in
    let y = c.in-Some-read_part.y in
    let line = c.read_node-line.result in
    record {
      live = child_live (length trees) c.pairs.at c.in-Some-at.k line.second c.in-Some-at.is c.pairs.invariant.live c.read_node-line.ensures.second;
      m = c.in-Some.ensures.second;
      n = c.in-Some-read_part.ensures.second;
      same = next_lines (part_tree trees c.args.left.now c.pairs.m) (part_tree trees c.args.right.now c.pairs.n) x.head y.head (part_tree trees c.args.left.now x.first) (part_tree trees c.args.left.now x.second) (part_tree trees c.args.right.now y.first) (part_tree trees c.args.right.now y.second) c.in-Some.ensures.tree c.in-Some-read_part.ensures.tree (statements (lines_of (tree_at trees c.pairs.at))) (statement_of trees c.claim_of-claim.result) (statements (lines_of (tree_at trees line.second))) (said_at trees c.pairs.at c.in-Some-at.k line c.in-Some-at.is c.read_node-line.ensures.tree c.line_of.result c.claim_of-claim.result c.line_of.ensures.line c.claim_of-claim.ensures.claim) c.says_equal.result c.says_equal.ensures c.if-not-says_equal.false ∙ c.pairs.invariant.same;
    }

pub returns : goal.returns
returns c =
    let trees = c.args.pool.now.trees in
    let s = part_tree trees c.args.left.now c.pairs.m in
    let t = part_tree trees c.args.right.now c.pairs.n in
    nothing_left (statements (lines_of (tree_at trees c.pairs.at))) (tree_at trees c.pairs.at) c.is_empty-2.result (said_equal s t) refl (none_equal s t c.in_default.ensures.none) c.is_empty-2.ensures.test ∙ c.pairs.invariant.same
