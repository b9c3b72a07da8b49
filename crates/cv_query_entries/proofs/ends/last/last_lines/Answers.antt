use Rattle.std.proofs.Common.{length, refl}
use Rattle.cv_syntax.specs.PoolTrees.{tree_at}
use Rattle.cv_syntax.proofs.Trees.{child_live, empty_at}
use Rattle.cv_scene.specs.lines.Lines.{lines_of, statements}
use Rattle.cv_query_entries.proofs.ends.Ending.{ahead_more, at_last, not_last}
use Rattle.cv_query_entries.proofs.ends.Lines.{nothing_said, said_behind}
use Rattle.cv_query_entries.proofs.ends.last.last_lines.Goals as goal

pub lines-init : goal.lines-init
lines-init c = record { live = c.requires.lines; ahead = c.requires.rest; same = λ k e f. record { apart = e; within = f; left = refl } }

pub lines-preserved : goal.lines-preserved
lines-preserved c =
    let trees = c.args.pool.now.trees in
    let here = c.read_node-here.result in
    let there = c.read_node-there.result in
    record {
      live = child_live (length trees) c.lines.start c.in-Some-start.s here.second c.in-Some-start.is c.lines.invariant.live c.read_node-here.ensures.second;
      ahead = child_live (length trees) c.lines.ahead c.in-Some.a there.second c.in-Some.is c.lines.invariant.ahead c.read_node-there.ensures.second;
      same = λ k e f. ahead_more k _ (statements (lines_of (tree_at trees c.lines.start))) (statements (lines_of (tree_at trees c.lines.ahead))) (c.lines.invariant.same k e f) _ _ (said_behind trees c.lines.ahead c.in-Some.a there c.in-Some.is c.read_node-there.ensures.tree) _ _ (said_behind trees c.lines.start c.in-Some-start.s here c.in-Some-start.is c.read_node-here.ensures.tree);
    }

pub returns-in_default-start-clause-lines : goal.returns-in_default-start-clause-lines
returns-in_default-start-clause-lines c = λ k e f.
    let trees = c.args.pool.now.trees in
    let there = c.read_node-there.result in
    absurd (not_last k _ (statements (lines_of (tree_at trees c.lines.start))) (statements (lines_of (tree_at trees c.lines.ahead))) (c.lines.invariant.same k e f) _ _ (said_behind trees c.lines.ahead c.in-Some.a there c.in-Some.is c.read_node-there.ensures.tree) _ refl (nothing_said (tree_at trees c.lines.start) (empty_at trees c.lines.start c.in_default-start.is)))

pub returns-clause-lines : goal.returns-clause-lines
returns-clause-lines c = λ k e f.
    let trees = c.args.pool.now.trees in
    at_last k _ (statements (lines_of (tree_at trees c.lines.start))) (statements (lines_of (tree_at trees c.lines.ahead))) (c.lines.invariant.same k e f) (nothing_said (tree_at trees c.lines.ahead) (empty_at trees c.lines.ahead c.in_default.is))
