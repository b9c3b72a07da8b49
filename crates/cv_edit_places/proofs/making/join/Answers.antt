use Rattle.cv_pool.specs.Nodes.{at, child}
use Rattle.cv_syntax.proofs.Plantings.{tree_of_node}
use Rattle.cv_edit_places.proofs.making.join.Goals as goal

pub returns-clause-tree : goal.returns-clause-tree
returns-clause-tree c = tree_of_node (at c.node.new.self.trees c.node.result.0) c.kind_of.result c.args.head (child c.args.pool.now.trees c.args.first) (child c.args.pool.now.trees c.args.second) c.node.ensures.tree c.kind_of.ensures
