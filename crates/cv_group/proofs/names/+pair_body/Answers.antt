use Rattle.std.proofs.Common.{◌||◌, length, refl, ◌∙◌}
use Rattle.cv_syntax.specs.PoolTrees.{tree_at}
use Rattle.cv_syntax.proofs.Trees.{child_above, child_live, empty_at, node_at}
use Rattle.cv_group_rules.specs.Rules as rule
use Rattle.cv_group.proofs.Steps as step
use Rattle.cv_group.proofs.bodies.Sets as set
use Rattle.std.specs.Prelude.{◌==◌}
use Rattle.cv_group.proofs.names.+pair_body.Goals as goal

pub body-preserved : goal.body-preserved
body-preserved t c =
    let trees = c.args.pool.now.trees in
    let node = c.read_node-node.result in
    record {
      live = child_live (length trees) c.body.at c.in-Some.k node.second c.in-Some.is c.body.invariant.live c.read_node-node.ensures.second;
      same = λ n x.
          set.pair_more (c.args.bound == n) _ _ (rule.defines (tree_at trees node.first) x || rule.defines (tree_at trees node.second) x) (rule.defines (tree_at trees node.first) x) _ (c.in_ok-pair_body.ensures n x) refl
          ∙ (set.pair_more (c.args.bound == n) _ _ (rule.defines (tree_at trees c.body.at) x) (rule.defines_here node.head x) _ (c.in_ok-pair_defined.ensures n x) (step.defines_step (tree_at trees c.body.at) node.head (tree_at trees node.first) (tree_at trees node.second) (node_at trees c.body.at c.in-Some.k node c.in-Some.is c.read_node-node.ensures.tree) x)
          ∙ c.body.invariant.same n x);
      less = child_above _ c.body.at c.in-Some.k node.second c.in-Some.is c.body.invariant.less c.read_node-node.ensures.second;
    }

pub returns : goal.returns
returns t c = λ n x. set.pair_nothing (c.args.bound == n) _ _ (step.defines_end (tree_at c.args.pool.now.trees c.body.at) (empty_at c.args.pool.now.trees c.body.at c.in_default.is) x) ∙ c.body.invariant.same n x
