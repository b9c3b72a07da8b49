use Rattle.cv_pool.specs.Nodes.{at, child}
use Rattle.cv_syntax.proofs.Buildings.{tree_node}
use Rattle.cv_syntax.proofs.building.join.Goals as goal

pub returns-clause-tree : goal.returns-clause-tree
returns-clause-tree c = tree_node (at c.node.new.self.trees c.node.result.0) c.args.kind (child c.args.pool.now.trees c.args.first) (child c.args.pool.now.trees c.args.second) c.node.ensures.tree
