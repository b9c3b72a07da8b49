use Rattle.std.proofs.Common.{◌≡◌, ◌<◌, false, Some, None, rules, ap}
use Rattle.cv_pool.proofs.Growth.{Grows_trans}
use Rattle.cv_syntax.specs.PoolTrees.{tree_at}
use Rattle.cv_syntax.specs.Walks.{above}
use Rattle.cv_scene.specs.Scenes.{names}
use Rattle.cv_edit_changes.proofs.renaming.Chains.{added, chain_off, first_fits, first_less, first_read, made_again, nothing_up, read_grown, stays_or_room, stays_unnamed, used}
use Rattle.cv_edit_changes.proofs.renaming.making.+rename.Goals as goal

pub up-init : goal.up-init
up-init t c = (None, nothing_up c.args.pool.now c.args.x c.args.y c.args.start c.in_ok-left.left.items c.in_ok-left.ensures)

pub rename-requires : goal.rename-requires
rename-requires t c =
    let old = c.args.pool.now in
    let l = c.in-Some.link in
    let i = c.up.invariant.1 in
    let off = chain_off old.trees c.args.start c.up.invariant.0 c.up.left.items c.pop.new.self.items l c.in-Some.ensures.items i.chain in
    let less : above l.node.first < above c.args.start = first_less old c.up.pool c.up.pool c.args.x c.args.y l c.args.start c.up.invariant.0 None c.up.next c.pop.new.self.items i.grows off.0 off.1.0 off.1.1 in (
      search rules,
      (
        first_read old c.up.pool c.up.pool c.args.x c.args.y l c.args.start c.up.invariant.0 None c.up.next c.pop.new.self.items i.grows off.0 off.1.0 off.1.1,
        first_fits old c.up.pool c.up.pool c.args.x c.args.y l c.args.start c.up.invariant.0 None c.up.next c.pop.new.self.items i.grows off.0 off.1.0 off.1.1 c.requires.spare i.spare,
      ),
    )

pub remade-requires-clause-read : goal.remade-requires-clause-read
remade-requires-clause-read t c =
    let old = c.args.pool.now in
    let l = c.in-Some.link in
    let i = c.up.invariant.1 in
    let off = chain_off old.trees c.args.start c.up.invariant.0 c.up.left.items c.pop.new.self.items l c.in-Some.ensures.items i.chain in
    read_grown old c.rename.new.pool l (Grows_trans old c.up.pool c.rename.new.pool i.grows c.rename.ensures.grows) off.1.0

pub remade-requires-clause-spare : goal.remade-requires-clause-spare
remade-requires-clause-spare t c =
    let old = c.args.pool.now in
    let l = c.in-Some.link in
    let i = c.up.invariant.1 in
    let off = chain_off old.trees c.args.start c.up.invariant.0 c.up.left.items c.pop.new.self.items l c.in-Some.ensures.items i.chain in
    stays_or_room old c.up.pool c.rename.new.pool c.args.x c.args.y l c.args.start c.up.invariant.0 c.in_ok-first.first c.up.next c.pop.new.self.items i.grows off.0 off.1.0 off.1.1 c.requires.spare i.spare c.in_ok-first.ensures.spare c.in_ok-first.ensures.same i.same

pub up-preserved : goal.up-preserved
up-preserved t c =
    let old = c.args.pool.now in
    let l = c.in-Some.link in
    let i = c.up.invariant.1 in
    let at = c.up.invariant.0 in
    let lower = c.pop.new.self.items in
    let first = c.in_ok-first.first in
    let firsts = c.rename.new.pool in
    let new = c.remade.new.pool in
    let off = chain_off old.trees c.args.start at c.up.left.items lower l c.in-Some.ensures.items i.chain in
    let same : names c.args.x (tree_at old.trees (Some l.id)) ≡ false → (c.remade.result ≡ l.id) × (new ≡ firsts) =
    λ n. c.remade.ensures.same (stays_unnamed old c.up.pool firsts c.args.x c.args.y l c.args.start at first c.up.next lower i.grows off.0 off.1.0 off.1.1 n c.in_ok-first.ensures.same i.same) in (
      Some l.id,
      record {
        chain = off.0;
        tree = made_again old c.up.pool firsts c.args.x c.args.y l c.args.start at first c.up.next lower i.grows off.0 off.1.0 off.1.1 new c.remade.result c.rename.ensures.grows i.live c.in_ok-first.ensures.tree i.tree c.remade.ensures.tree;
        live = c.remade.ensures.live;
        same = λ n. ap Some (same n).0;
        none = λ n. absurd (cc);
        grows = Grows_trans old c.up.pool new i.grows (Grows_trans c.up.pool firsts new c.rename.ensures.grows c.remade.ensures.grows);
        spare = used old c.up.pool firsts c.args.x c.args.y l c.args.start at first c.up.next lower i.grows off.0 off.1.0 off.1.1 new (λ n. (same n).1) c.in_ok-first.ensures.spare c.remade.ensures.spare i.spare;
        few = added old c.up.pool firsts c.args.x c.args.y l c.args.start at first c.up.next lower i.grows off.0 off.1.0 off.1.1 new (λ n. (same n).1) c.in_ok-first.ensures.few c.remade.ensures.few i.few;
      },
    )
