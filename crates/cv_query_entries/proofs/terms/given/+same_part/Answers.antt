use Rattle.std.proofs.Common.{sym, ◌∙◌}
use Rattle.cv_syntax.specs.PoolTrees.{tree_at}
use Rattle.cv_syntax.proofs.Trees.{node_at}
use Rattle.cv_query_entries.specs.terms.Parts.{part_tree}
use Rattle.cv_query_entries.proofs.terms.Putting.{same_nothing}
use Rattle.cv_query_entries.proofs.terms.given.+same_part.Goals as goal

pub returns-in_default-read_part : goal.returns-in_default-read_part
returns-in_default-read_part t c =
    let trees = c.args.pool.now.trees in
    let node = c.read_node-node.result in
    sym (same_nothing (tree_at trees c.chain.at) (part_tree trees c.args.given.now c.chain.there) node.head (tree_at trees node.first) (tree_at trees node.second) (node_at trees c.chain.at c.in-Some.n node c.in-Some.is c.read_node-node.ensures.tree) c.in_default-read_part.ensures.none) ∙ c.chain.invariant.same
