use Rattle.std.proofs.Common.{◌∙◌, Some}
use Rattle.cv_syntax.specs.PoolTrees.{tree_at}
use Rattle.cv_derive.proofs.Patterns.{other_equation}
use Rattle.cv_derive.proofs.facts.is_equation_under.Goals as goal

pub returns-in_default : goal.returns-in_default
returns-in_default c =
    let trees = c.args.pool.now.trees in
    let node = c.read_node-node.result in
    c.is_empty.ensures.test ∙ other_equation c.args.names.now (tree_at trees c.args.terms) c.args.replications.now (tree_at trees c.args.term) (tree_at trees (Some c.args.definition)) node.head (tree_at trees node.first) (tree_at trees node.second) c.read_node-node.ensures.tree c.in_default.not-Let
