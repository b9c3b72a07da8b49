use Rattle.std.proofs.Common.{◌||◌, length, refl, ◌∙◌}
use Rattle.cv_syntax.specs.PoolTrees.{tree_at}
use Rattle.cv_syntax.proofs.Trees.{child_above, child_live, empty_at, node_at}
use Rattle.cv_group_rules.specs.Rules as rule
use Rattle.cv_group.proofs.Steps as step
use Rattle.cv_group.proofs.bodies.Sets as set
use Rattle.cv_group.proofs.reads.+note_reads.Goals as goal

pub term-preserved : goal.term-preserved
term-preserved t c =
    let trees = c.args.pool.now.trees in
    let node = c.read_node-node.result in
    record {
      live = child_live (length trees) c.term.at c.in-Some.k node.second c.in-Some.is c.term.invariant.live c.read_node-node.ensures.second;
      same = λ x.
          set.or_more _ _ (rule.reads (tree_at trees node.first) x || rule.reads (tree_at trees node.second) x) (rule.reads (tree_at trees node.first) x) _ (c.in_ok-note_reads.ensures x) refl
          ∙ (set.or_more _ _ (rule.reads (tree_at trees c.term.at) x) (rule.names_here node.head x) _ (c.in_ok-note_read.ensures x) (step.reads_step (tree_at trees c.term.at) node.head (tree_at trees node.first) (tree_at trees node.second) (node_at trees c.term.at c.in-Some.k node c.in-Some.is c.read_node-node.ensures.tree) x)
          ∙ c.term.invariant.same x);
      less = child_above _ c.term.at c.in-Some.k node.second c.in-Some.is c.term.invariant.less c.read_node-node.ensures.second;
    }

pub returns : goal.returns
returns t c = λ x. set.or_nothing _ _ (step.reads_end (tree_at c.args.pool.now.trees c.term.at) (empty_at c.args.pool.now.trees c.term.at c.in_default.is) x) ∙ c.term.invariant.same x
