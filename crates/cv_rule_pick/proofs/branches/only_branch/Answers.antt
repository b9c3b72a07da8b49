use Rattle.std.proofs.Common.{ap, option_map, sym, ◌∙◌}
use Rattle.cv_syntax.specs.PoolTrees.{tree_at}
use Rattle.cv_rule_pick.specs.Looks.{arm_of}
use Rattle.cv_rule_pick.proofs.OnlyBranches.{no_branch}
use Rattle.cv_rule_pick.proofs.branches.only_branch.Goals as goal

pub returns-in_err-binders-clause-branch : goal.returns-in_err-binders-clause-branch
returns-in_err-binders-clause-branch c =
    let trees = c.args.pool.now.trees in
    let find = c.in_ok-find.find in
    ap (option_map (arm_of trees)) c.from_residual-in_err-binders.ensures
    ∙ sym (no_branch (tree_at trees c.args.construct) find.head c.in-Find.field-0 (tree_at trees find.first) (tree_at trees find.second) (tree_at trees c.in_ok-branch.branch, tree_at trees c.in_ok-branch.more) c.in_ok-find.ensures.node c.in-Find.is c.in_ok-branch.ensures.sides (c.in_err-binders.ensures.sides))
