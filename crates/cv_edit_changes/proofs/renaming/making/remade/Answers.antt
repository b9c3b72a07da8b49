use Rattle.std.proofs.Common.{ap, ◌∙◌}
use Rattle.cv_pool.specs.Nodes.{at, child}
use Rattle.cv_syntax.specs.PoolTrees.{kind_of_head}
use Rattle.cv_syntax.proofs.Plantings.{tree_of_node}
use Rattle.cv_steps.specs.Renaming.{renamed_head}
use Rattle.cv_edit_changes.proofs.renaming.making.remade.Goals as goal

pub returns-clause-tree : goal.returns-clause-tree
returns-clause-tree c =
    let trees = c.args.pool.now.trees in
    tree_of_node (at c.node.new.self.trees c.node.result.0) c.kind_of.result (renamed_head c.args.x c.args.y c.args.link.node.head) (child trees c.args.first) (child trees c.args.second) c.node.ensures.tree (c.kind_of.ensures ∙ ap kind_of_head c.renamed_head.ensures)
