use Rattle.std.proofs.Common.{Some, ap, ◌∙◌}
use Rattle.cv_syntax.specs.PoolTrees.{tree_at}
use Rattle.cv_steps.specs.Renaming.{renamed}
use Rattle.cv_edit_changes.proofs.renaming.Chains.{root_renamed}
use Rattle.cv_edit_changes.proofs.renaming.making.make_renaming.Goals as goal

pub returns-in-Ok-clause-tree : goal.returns-in-Ok-clause-tree
returns-in-Ok-clause-tree c =
    let t = renamed c.args.x c.args.y (tree_at c.args.pool.now.trees (Some c.args.game)) in
    root_renamed c.rename.new.pool.trees t c.in-Ok.next c.args.game c.unwrap_or.result (c.in-Ok.ensures.tree ∙ ap (λ ts. renamed c.args.x c.args.y (tree_at ts (Some c.args.game))) c.in_ok-reserve.ensures.kept) c.in-Ok.ensures.none c.unwrap_or.ensures
