use Rattle.std.proofs.Common.{arith, length, sym, ◌∙◌}
use Rattle.cv_syntax.specs.PoolTrees.{tree_at}
use Rattle.cv_syntax.proofs.Trees.{child_live, empty_at}
use Rattle.cv_syntax.proofs.Walking.{above_child, above_some}
use Rattle.cv_derive_lines.proofs.Fronts.{count_at}
use Rattle.cv_derive_lines.proofs.citing.Fronts.{cited_at, cited_none}
use Rattle.cv_derive_lines.proofs.citing.citing.claim_in.Goals as goal

pub step-requires-clause-live : goal.step-requires-clause-live
step-requires-clause-live c =
    c.line_of.ensures.live (length c.args.pool.now.trees) (child_live (length c.args.pool.now.trees) c.lines.at c.in-Some.k c.read_node-node.result.first c.in-Some.is c.lines.invariant.live c.read_node-node.ensures.first)

pub step-requires-clause-fits : goal.step-requires-clause-fits
step-requires-clause-fits c =
    let trees = c.args.pool.now.trees in
    let n = count_at trees c.lines.at c.in-Some.k c.read_node-node.result c.line_of.result c.in-Some.is c.read_node-node.ensures.tree c.line_of.ensures.line in
    omega (arith, n, c.lines.invariant.fits, c.requires.fits)

pub returns-in-Ends-clause-claim : goal.returns-in-Ends-clause-claim
returns-in-Ends-clause-claim c =
    let trees = c.args.pool.now.trees in
    c.in-Ends.ensures.found ∙ (sym (cited_at trees c.lines.at c.in-Some.k c.read_node-node.result c.line_of.result c.in-Some.is c.read_node-node.ensures.tree c.line_of.ensures.line c.lines.start c.args.n c.args.l) ∙ c.lines.invariant.same)

pub returns-in-Ends-clause-live : goal.returns-in-Ends-clause-live
returns-in-Ends-clause-live c =
    c.in-Ends.ensures.claim (length c.args.pool.now.trees) (c.line_of.ensures.live (length c.args.pool.now.trees) (child_live (length c.args.pool.now.trees) c.lines.at c.in-Some.k c.read_node-node.result.first c.in-Some.is c.lines.invariant.live c.read_node-node.ensures.first))

pub lines-smaller : goal.lines-smaller
lines-smaller c =
    let b = c.in-Goes.ensures.next c.in-Some.k.0 (c.line_of.ensures.live c.in-Some.k.0 c.read_node-node.ensures.first) c.read_node-node.ensures.second in
    omega (arith, above_some c.lines.at c.in-Some.k c.in-Some.is, above_child c.in-Some.k.0 c.in-Goes.next b)

pub lines-preserved : goal.lines-preserved
lines-preserved c =
    let trees = c.args.pool.now.trees in
    let b = c.in-Goes.ensures.next c.in-Some.k.0 (c.line_of.ensures.live c.in-Some.k.0 c.read_node-node.ensures.first) c.read_node-node.ensures.second in
    record {
      live = child_live (length trees) c.lines.at c.in-Some.k c.in-Goes.next c.in-Some.is c.lines.invariant.live b;
      fits = omega (arith, c.in-Goes.ensures.fits, count_at trees c.lines.at c.in-Some.k c.read_node-node.result c.line_of.result c.in-Some.is c.read_node-node.ensures.tree c.line_of.ensures.line, c.lines.invariant.fits);
      same = c.in-Goes.ensures.found ∙ (sym (cited_at trees c.lines.at c.in-Some.k c.read_node-node.result c.line_of.result c.in-Some.is c.read_node-node.ensures.tree c.line_of.ensures.line c.lines.start c.args.n c.args.l) ∙ c.lines.invariant.same);
    }

pub returns-clause-claim : goal.returns-clause-claim
returns-clause-claim c =
    let trees = c.args.pool.now.trees in
    sym (cited_none (tree_at trees c.lines.at) c.lines.start c.args.n c.args.l (empty_at trees c.lines.at c.in_default.is)) ∙ c.lines.invariant.same
