use Rattle.std.proofs.Common.{arith, length, ◌∙◌}
use Rattle.cv_syntax.specs.PoolTrees.{tree_at}
use Rattle.cv_syntax.proofs.Trees.{child_live, empty_at, node_at, tree_at_None}
use Rattle.cv_query_parts.proofs.pairs.Leaving.{behind_all, behind_more, behind_none}
use Rattle.cv_query_parts.proofs.pairs.rest.behind_entries.Goals as goal

pub places-preserved : goal.places-preserved
places-preserved c =
    let trees = c.args.pool.now.trees in
    let node = c.read_node-part.result in
    record {
      live = child_live (length trees) c.places.at c.in-Some.n node.second c.in-Some.is c.places.invariant.live c.read_node-part.ensures.second;
      same = behind_more c.args.places.now c.places._k (tree_at trees c.places.at) node.head (tree_at trees node.first) (tree_at trees node.second) c.places-test.true (node_at trees c.places.at c.in-Some.n node c.in-Some.is c.read_node-part.ensures.tree) ∙ c.places.invariant.same;
    }

pub returns-in_default-clause-tree : goal.returns-in_default-clause-tree
returns-in_default-clause-tree c =
    let trees = c.args.pool.now.trees in
    tree_at_None trees ∙ (behind_none c.args.places.now c.places._k (tree_at trees c.places.at) c.places-test.true (empty_at trees c.places.at c.in_default.is) ∙ c.places.invariant.same)

pub returns-clause-tree : goal.returns-clause-tree
returns-clause-tree c = behind_all c.args.places.now c.places._k (tree_at c.args.pool.now.trees c.places.at) (omega arith) ∙ c.places.invariant.same
