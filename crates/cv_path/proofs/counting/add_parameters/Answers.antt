use Rattle.std.proofs.Common.{rules, ap, ◌∙◌}
use Rattle.cv_syntax.specs.PoolTrees.{tree_at}
use Rattle.cv_syntax.proofs.Trees.{empty_at}
use Rattle.cv_path.proofs.Products.{parameters_full, parameters_go, parameters_end}
use Rattle.cv_path.proofs.counting.add_parameters.Goals as goal

pub returns-then-not-add_parameter-clause-full : goal.returns-then-not-add_parameter-clause-full
returns-then-not-add_parameter-clause-full c =
    let trees = c.args.pool.now.trees in
    let node = c.read_node-node.result in
    λ q. parameters_full (tree_at trees c.indices.at) node.head (tree_at trees node.first) (tree_at trees node.second) c.indices.product.items _ (ap (tree_at trees) c.in-Some.is ∙ c.read_node-node.ensures.tree) (c.add_parameter.ensures.full (search rules)) c.indices.invariant.added

pub indices-preserved : goal.indices-preserved
indices-preserved c =
    let trees = c.args.pool.now.trees in
    let node = c.read_node-node.result in
    record {
      few = search rules;
      live = search rules;
      added = parameters_go (tree_at trees c.indices.at) node.head (tree_at trees node.first) (tree_at trees node.second) c.indices.product.items c.add_parameter.new.product.items _ (ap (tree_at trees) c.in-Some.is ∙ c.read_node-node.ensures.tree) (c.add_parameter.ensures.room (search rules)) c.indices.invariant.added;
    }

pub returns-clause-room : goal.returns-clause-room
returns-clause-room c = λ q. parameters_end (tree_at c.args.pool.now.trees c.indices.at) c.indices.product.items _ (empty_at c.args.pool.now.trees c.indices.at c.in_default.is) c.indices.invariant.added
