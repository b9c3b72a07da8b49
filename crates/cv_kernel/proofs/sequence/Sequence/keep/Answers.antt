use Rattle.std.proofs.Common.{◌≡◌, ◌<◌, ◌≤◌, Some, length, subst, sym}
use Rattle.std.specs.Prelude.{IfSome}
use Rattle.cv_syntax.specs.PoolTrees.{tree_at}
use Rattle.cv_syntax.specs.limits.Limits.{most_nodes}
use Rattle.cv_syntax_trees.specs.Tree.{size}
use Rattle.cv_kernel.specs.Sequences.{game_in}
use Rattle.cv_kernel.proofs.Marks.{formed_stays}
use Rattle.cv_kernel.proofs.sequence.Sequence.keep.Goals as goal

pub returns-clause-stands : goal.returns-clause-stands
returns-clause-stands c =
    let old = c.args.work.now.pool in
    let new = c.keep_game.new.pool in
    let told = c.in_ok-root.ensures in
    let before = c.requires.stands in
    let game = game_in old.trees c.args.self.now in
    let same : tree_at new.trees (Some c.in-Some.root) ≡ game = subst (λ o. IfSome o (λ n. tree_at new.trees (Some n) ≡ game)) c.in-Some.is told.game in
    record {
      live = subst (λ o. IfSome o (λ n. n.0 < length new.trees)) c.in-Some.is told.live;
      small = subst (λ t. size t ≤ most_nodes) (sym same) before.small;
      formed = formed_stays c.args.mark.0 old new c.args.work.now.decls game (tree_at new.trees (Some c.in-Some.root)) c.requires.mark told.stays c.requires.declared same before.formed;
      arrays = tt;
      fits = before.fits;
      modest = before.modest;
      few = before.few;
    }
