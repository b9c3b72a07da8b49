use Rattle.std.proofs.Common.{sym, ◌∙◌}
use Rattle.cv_syntax.specs.PoolTrees.{tree_at}
use Rattle.cv_syntax.proofs.Trees.{child_live, empty_at, node_at}
use Rattle.cv_derive_lines.proofs.Fronts.{front_empty, front_other, nothing_below, nothing_line}
use Rattle.cv_derive_lines.proofs.lines.line_of.Goals as goal

pub returns-in_default-clause-line : goal.returns-in_default-clause-line
returns-in_default-clause-line c rest =
    let trees = c.args.pool.now.trees in
    nothing_line trees c.no_line.result c.no_line.ensures rest ∙ sym (front_empty (tree_at trees c.args.item) rest (empty_at trees c.args.item c.in_default.is))

pub returns-in-Cases-clause-live : goal.returns-in-Cases-clause-live
returns-in-Cases-clause-live c = λ n b.
    let o = c.read_node-node.result in
    c.cases.ensures.live n (child_live n c.args.item c.in-Some.n o.first c.in-Some.is b c.read_node-node.ensures.first) (child_live n c.args.item c.in-Some.n o.second c.in-Some.is b c.read_node-node.ensures.second)

pub returns-in_default-head : goal.returns-in_default-head
returns-in_default-head c =
    let trees = c.args.pool.now.trees in
    let o = c.read_node-node.result in
    record {
      line = λ rest. nothing_line trees c.no_line-in_default-head.result c.no_line-in_default-head.ensures rest ∙ sym (front_other (tree_at trees c.args.item) o.head (tree_at trees o.first) (tree_at trees o.second) rest (node_at trees c.args.item c.in-Some.n o c.in-Some.is c.read_node-node.ensures.tree) c.in_default-head.not-Line c.in_default-head.not-Defined c.in_default-head.not-Cases);
      live = λ n b. nothing_below c.no_line-in_default-head.result c.no_line-in_default-head.ensures n;
    }
