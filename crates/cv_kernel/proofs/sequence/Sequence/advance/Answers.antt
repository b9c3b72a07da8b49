use Rattle.std.proofs.Common.{arith, subst, sym, ◌+◌}
use Rattle.cv_bound.specs.costs.Sums.{SumsFit}
use Rattle.cv_bound.specs.declared.costs.sums.Sums.{Sums}
use Rattle.cv_scene_view.specs.Kept.{scene_of}
use Rattle.cv_script.specs.Views.{items_of_view}
use Rattle.cv_kernel.specs.Rules.{rule_of_items}
use Rattle.cv_kernel.specs.Sequences.{AreModest}
use Rattle.cv_kernel.proofs.Pushes.{accepted_small, fits_on, modest_on}
use Rattle.cv_kernel.proofs.sequence.Sequence.advance.Goals as goal

pub with_cost-requires : goal.with_cost-requires
with_cost-requires c =
    let old = c.args.self.now in
    fits_on old.sum c.in_ok-next.next.cost old.steps c.requires.stands.modest c.in_ok-next.ensures.answer.few c.requires.steps

pub returns-clause-stands : goal.returns-clause-stands
returns-clause-stands c =
    let w = c.in_ok-next.ensures.answer in
    let old = c.args.self.now in
    let pool = c.args.work.now.pool in
    record {
      live = c.in_ok-next.ensures.prepared.live;
      small = accepted_small (scene_of pool c.args.work.now.decls old.game.root) (rule_of_items (items_of_view pool.trees c.args.view)) _ w.cost w.accepted;
      formed = c.in_ok-next.ensures.prepared.formed;
      arrays = c.in_ok-next.ensures.prepared;
      fits = subst SumsFit (sym c.in_ok-sum.ensures) (fits_on old.sum c.in_ok-next.next.cost old.steps c.requires.stands.modest w.few c.requires.steps);
      modest =
          subst (λ (s : Sums). AreModest s (old.steps + 1)) (sym c.in_ok-sum.ensures) (modest_on old.sum c.in_ok-next.next.cost old.steps c.requires.stands.modest w.few);
      few = omega (arith, c.requires.steps);
    }
