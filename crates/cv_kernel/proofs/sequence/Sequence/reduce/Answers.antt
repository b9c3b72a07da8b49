use Rattle.std.proofs.Common.{◌+◌, ◌∙◌, Some, ap, arith, length, refl, subst, sym}
use Rattle.cv_syntax.specs.declared.work.Game.{Game}
use Rattle.cv_syntax.specs.PoolTrees.{tree_at}
use Rattle.cv_bound.specs.declared.cost.Cost.{Cost}
use Rattle.cv_scene_view.specs.Kept.{scene_of}
use Rattle.cv_kernel_crypto.specs.Applied.{DrawsNext, HasEquivalences}
use Rattle.cv_bound.specs.costs.Costs.{advantage_of}
use Rattle.cv_bound.specs.costs.Sums.{SumsFit, with_cost}
use Rattle.cv_bound.specs.declared.costs.sums.Sums.{Sums}
use Rattle.cv_kernel.specs.Sequences.{AreModest}
use Rattle.cv_kernel.proofs.Pushes.{modest_on}
use Rattle.cv_kernel.proofs.Reduced.{advantage_fits, failed_answer, formed_grown, next_formed, reduced, refused_answer}
use Rattle.cv_kernel.proofs.sequence.Sequence.reduce.Goals as goal

pub with_cost-requires : goal.with_cost-requires
with_cost-requires c =
    let sums = c.prepare.new.self.sum in
    subst (λ (k : Cost). SumsFit (with_cost sums k)) (sym c.advantage.ensures) (advantage_fits sums (c.prepare.new.self.steps + 1) c.args.reducing.equivalence c.prepare.ensures.stands.fits)

pub plan-requires-clause-equivalences : goal.plan-requires-clause-equivalences
plan-requires-clause-equivalences c =
    let w = c.args.work.now in
    subst (λ (g : Game). HasEquivalences (scene_of w.pool w.decls g.root)) (sym c.prepare.ensures.same.game) c.requires.equivalences

pub returns-in_err-basis-clause-answer : goal.returns-in_err-basis-clause-answer
returns-in_err-basis-clause-answer c =
    let w = c.args.work.now in
    refused_answer w.pool.limit (length w.pool.trees) _ _ (ap (λ (g : Game). scene_of w.pool w.decls g.root) c.prepare.ensures.same.game) c.args.reducing.equivalence c.args.reducing.key w.pool.trees c.args.self.now c.prepare.new.self _ c.in_err-basis.field-0.0 c.from_residual-in_err-basis.ensures.1
    c.in_err-basis.ensures.fault

pub returns-in_err-next-clause-answer : goal.returns-in_err-next-clause-answer
returns-in_err-next-clause-answer c =
    let w = c.args.work.now in
    failed_answer w.pool.limit (length w.pool.trees) _ _ (ap (λ (g : Game). scene_of w.pool w.decls g.root) c.prepare.ensures.same.game) c.args.reducing.equivalence c.args.reducing.key c.apply.new.work.pool.trees c.args.self.now c.prepare.new.self (c.prepare.new.self.steps + 1) c.apply.new.work.pool.trees _ c.in_err-next.field-0.0 c.from_residual-in_err-next.ensures.1
    c.in_err-next.ensures.answer

pub returns-clause-answer : goal.returns-clause-answer
returns-clause-answer c =
    let w = c.args.work.now in
    let same = c.prepare.ensures.same in
    let mid = c.prepare.new.self in
    let step = mid.steps + 1 in
    reduced w.pool.limit (length w.pool.trees) _ _ (ap (λ (g : Game). scene_of w.pool w.decls g.root) same.game) c.args.reducing.equivalence c.args.reducing.key c.apply.new.work.pool.trees c.args.self.now _ step c.in_ok-next.next refl c.in_ok-next.ensures.answer refl
    (let e = same.steps in omega arith) refl (c.in_ok-sum.ensures ∙ (ap (with_cost mid.sum) c.advantage.ensures ∙ ap (λ (s : Sums). with_cost s (advantage_of step c.args.reducing.equivalence)) same.sum)) same.closed (sym c.in_ok-basis.ensures.shape) c.in_ok-next.ensures.few

pub returns-clause-drawn : goal.returns-clause-drawn
returns-clause-drawn c =
    let w = c.args.work.now in
    subst (λ (g : Game). DrawsNext w.names c.apply.new.work.names w.decls.own (scene_of w.pool w.decls g.root) c.args.reducing.equivalence c.args.reducing.key (tree_at c.apply.new.work.pool.trees (Some c.in_ok-next.next.game.root))) c.prepare.ensures.same.game c.in_ok-next.ensures.drawn

pub returns-clause-stands : goal.returns-clause-stands
returns-clause-stands c =
    let w = c.args.work.now in
    let after = c.apply.new.work in
    let mid = c.prepare.new.self in
    let s = scene_of w.pool w.decls mid.game.root in
    let next = tree_at after.pool.trees (Some c.in_ok-next.next.game.root) in
    let formed = formed_grown w.pool after.pool w.decls after.decls next c.apply.ensures.grows c.requires.declared c.apply.ensures.decls
    (next_formed s c.args.reducing.equivalence c.args.reducing.key next c.in_ok-next.ensures.answer.accepted) in
    let small = c.in_ok-next.ensures.small in
    record {
      live = c.in_ok-next.ensures.live;
      small = small;
      formed = formed;
      arrays = record { live = c.in_ok-next.ensures.live; fits = omega (arith, small); formed = formed; arrays = c.in_ok-next.ensures.arrays; entries = c.in_ok-next.ensures.entries };
      fits = subst SumsFit (sym (c.in_ok-sum.ensures ∙ ap (with_cost mid.sum) c.advantage.ensures)) (advantage_fits mid.sum (mid.steps + 1) c.args.reducing.equivalence c.prepare.ensures.stands.fits);
      modest =
          subst (λ (s : Sums). AreModest s (mid.steps + 1)) (sym (c.in_ok-sum.ensures ∙ ap (with_cost mid.sum) c.advantage.ensures))
          (modest_on mid.sum (advantage_of (mid.steps + 1) c.args.reducing.equivalence) mid.steps c.prepare.ensures.stands.modest (omega arith));
      few = (let e = c.prepare.ensures.same.steps in omega (arith, c.requires.steps));
    }
