use Rattle.std.proofs.Common.{sym, ◌∙◌}
use Rattle.cv_syntax.specs.PoolTrees.{tree_at}
use Rattle.cv_syntax.proofs.Trees.{empty_at, node_at}
use Rattle.cv_derive_lines.proofs.Fronts.{cases_empty, cases_short, nothing_line}
use Rattle.cv_derive_lines.proofs.lines.cases.Goals as goal

pub returns-in_default-clause-line : goal.returns-in_default-clause-line
returns-in_default-clause-line c rest =
    let trees = c.args.pool.now.trees in
    nothing_line trees c.no_line.result c.no_line.ensures rest ∙ sym (cases_empty (tree_at trees c.args.node.first) (tree_at trees c.args.node.second) rest (empty_at trees c.args.node.second c.in_default.is))

pub returns-in_default-second-clause-line : goal.returns-in_default-second-clause-line
returns-in_default-second-clause-line c rest =
    let trees = c.args.pool.now.trees in
    let o = c.read_node-blocks.result in
    nothing_line trees c.no_line-in_default-second.result c.no_line-in_default-second.ensures rest
    ∙ sym (cases_short (tree_at trees c.args.node.first) (tree_at trees c.args.node.second) o.head (tree_at trees o.first) (tree_at trees o.second) rest (node_at trees c.args.node.second c.in-Some.k o c.in-Some.is c.read_node-blocks.ensures.tree) (empty_at trees o.second c.in_default-second.is))
