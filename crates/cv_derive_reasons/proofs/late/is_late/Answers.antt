use Rattle.std.proofs.Common.{◌≡◌, ◌+◌, arith, refl, sym, ap, ◌∙◌, Some}
use Rattle.cv_syntax_trees.specs.Tree.{size}
use Rattle.cv_syntax.specs.PoolTrees.{tree_at}
use Rattle.cv_syntax.proofs.Trees.{child_live, empty_at}
use Rattle.cv_syntax.proofs.Walking.{above_child, above_some}
use Rattle.cv_path.proofs.Going.{live_at}
use Rattle.cv_scene.specs.Late.{is_late}
use Rattle.cv_derive_reasons.proofs.late.Coming.{late_end}
use Rattle.cv_derive_reasons.proofs.late.is_late.Goals as goal

pub down-init : goal.down-init
down-init c = record { live = omega arith; within = omega arith; same = refl }

pub step-requires-clause-live : goal.step-requires-clause-live
step-requires-clause-live c = live_at _ c.args.game.root.0 c.down.at c.in-Some.n c.in-Some.is c.down.invariant.live c.requires.live

pub step-requires-clause-fits : goal.step-requires-clause-fits
step-requires-clause-fits c =
    let trees = c.args.pool.now.trees in
    let e : size (tree_at trees c.down.at) ≡ size (tree_at trees (Some c.in-Some.n)) = ap (λ o. size (tree_at trees o)) c.in-Some.is in
    omega (arith, e, c.down.invariant.within, c.requires.fits)

pub returns-in-Ends : goal.returns-in-Ends
returns-in-Ends c =
    let trees = c.args.pool.now.trees in
    sym c.in-Ends.ensures.leads ∙ (sym (ap (λ o. is_late c.args.x (tree_at trees o) c.down.left) c.in-Some.is) ∙ c.down.invariant.same)

pub down-smaller : goal.down-smaller
down-smaller c = omega (arith, above_some c.down.at c.in-Some.n c.in-Some.is, above_child c.in-Some.n.0 c.in-Goes.next c.in-Goes.ensures.below)

pub down-preserved : goal.down-preserved
down-preserved c =
    let trees = c.args.pool.now.trees in
    record {
      live = child_live (c.args.game.root.0 + 1) c.down.at c.in-Some.n c.in-Goes.next c.in-Some.is c.down.invariant.live c.in-Goes.ensures.below;
      within = let e : size (tree_at trees c.down.at) ≡ size (tree_at trees (Some c.in-Some.n)) = ap (λ o. size (tree_at trees o)) c.in-Some.is in omega (arith, c.in-Goes.ensures.leads.1, c.down.invariant.within, e);
      same = sym c.in-Goes.ensures.leads.0 ∙ (sym (ap (λ o. is_late c.args.x (tree_at trees o) c.down.left) c.in-Some.is) ∙ c.down.invariant.same);
    }

pub returns : goal.returns
returns c = sym (late_end c.args.x c.down.left (tree_at c.args.pool.now.trees c.down.at) (empty_at c.args.pool.now.trees c.down.at c.in_default.is)) ∙ c.down.invariant.same
