use Rattle.std.proofs.Common.{length, ◌∙◌}
use Rattle.cv_syntax.specs.PoolTrees.{tree_at}
use Rattle.cv_syntax.proofs.Trees.{child_live, empty_at, node_at}
use Rattle.cv_group.proofs.Steps as step
use Rattle.cv_group.proofs.bodies.Sets as set
use Rattle.std.proofs.Math.Path.{fun_ext}
use Rattle.cv_group.proofs.names.names_of.Goals as goal

pub list-preserved : goal.list-preserved
list-preserved c =
    let trees = c.args.pool.now.trees in
    let node = c.read_node-node.result in
    record { live = child_live (length trees) c.list.at c.in-Some.k node.second c.in-Some.is c.list.invariant.live c.read_node-node.ensures.second; same = λ n x. set.or_more _ _ _ _ _ (c.in_ok-pair_function.ensures n x) (step.names_of_step (tree_at trees c.list.at) node.head (tree_at trees node.first) (tree_at trees node.second) (node_at trees c.list.at c.in-Some.k node c.in-Some.is c.read_node-node.ensures.tree) n x) ∙ c.list.invariant.same n x }

pub returns : goal.returns
returns c = fun_ext (λ n. fun_ext (λ x. set.or_nothing _ _ (step.names_of_end (tree_at c.args.pool.now.trees c.list.at) (empty_at c.args.pool.now.trees c.list.at c.in_default.is) n x) ∙ c.list.invariant.same n x))
