use Rattle.std.proofs.Common.{ap, sym, ◌∙◌}
use Rattle.cv_syntax.specs.PoolTrees.{tree_at}
use Rattle.cv_syntax.proofs.Trees.{tree_at_None}
use Rattle.cv_rule_codef.specs.Adjacent.{behind_item}
use Rattle.cv_rule_codef.proofs.Looks.{behind_other}
use Rattle.cv_rule_codef.proofs.adjacent.behind_item.Goals as goal

pub returns-in_default-clause-tree : goal.returns-in_default-clause-tree
returns-in_default-clause-tree c = tree_at_None c.args.pool.now.trees ∙ sym (ap behind_item c.in_default.ensures.none)

pub returns-in_default-head : goal.returns-in_default-head
returns-in_default-head c =
    let trees = c.args.pool.now.trees in
    let link = c.in-Some.link in
    record {
      tree = tree_at_None trees ∙ sym (behind_other (tree_at trees c.args.list) link.head (tree_at trees link.first) (tree_at trees link.second) c.in-Some.ensures.node c.in_default-head.not-Cons);
      live = tt;
    }
