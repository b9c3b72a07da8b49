use Rattle.std.proofs.Common.{◌<◌, ap, length, refl, subst, sym, ◌∙◌, Option, Some}
use Rattle.std.specs.Prelude.{IfSome, option_map}
use Rattle.cv_kernel.specs.Closings.{closing_in}
use Rattle.cv_syntax.specs.PoolTrees.{tree_at}
use Rattle.cv_syntax.specs.declared.work.Game.{Game}
use Rattle.cv_follow.proofs.Entries.{next_live, next_told}
use Rattle.cv_follow.proofs.walk.entry_of.Goals as goal

pub returns-clause-told : goal.returns-clause-told
returns-clause-told c =
    let trees = c.args.work.now.pool.trees in
    record {
      names = refl;
      step = refl;
      cost = c.in_ok-cost.ensures;
      context = c.in_ok-context.ensures;
      next = ap (option_map (λ (q : Game). tree_at trees (Some q.root))) c.next_of-next.ensures ∙ next_told trees (closing_in (tree_at trees (Some c.args.step.0))) c.args.sequence.now.game;
    }

pub returns-clause-live : goal.returns-clause-live
returns-clause-live c =
    let trees = c.args.work.now.pool.trees in (
      c.requires.step,
      subst (λ (o : Option Game). IfSome o (λ q. q.root.0 < length trees)) (sym c.next_of-next.ensures) (next_live (length trees) (closing_in (tree_at trees (Some c.args.step.0))) c.args.sequence.now.game c.requires.game),
    )
