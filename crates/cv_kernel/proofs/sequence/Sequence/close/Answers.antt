use Rattle.std.proofs.Common.{◌++◌, ◌∷◌, [], List, arith, ap, ap₂, refl, subst, sym, ◌∙◌, length, Err, Some}
use Rattle.std.specs.Prelude.{option_map}
use Rattle.cv_pool.specs.KindTree.{KindTree}
use Rattle.cv_syntax.specs.declared.work.Game.{Game}
use Rattle.cv_syntax.specs.PoolTrees.{tree_at}
use Rattle.cv_syntax.specs.limits.Limits.{nodes_of}
use Rattle.cv_bound.specs.declared.cost.Cost.{Cost}
use Rattle.cv_bound.specs.declared.terms.Term.{Term}
use Rattle.cv_query.specs.Claimed.{failure_of}
use Rattle.cv_scene_view.specs.Kept.{scene_of}
use Rattle.cv_bound.specs.declared.closings.queries.ClosedQuery.{ClosedQuery}
use Rattle.cv_bound.specs.closings.Queries.{numbers_of}
use Rattle.cv_bound.specs.costs.Sums.{SumsFit, sum_for, with_cost}
use Rattle.cv_steps.specs.Costs.{cost_of}
use Rattle.cv_costs.specs.Certificates.{cost_of_certificate}
use Rattle.cv_costs.proofs.CertificateCosts.{coefficients_few}
use Rattle.cv_kernel.specs.Closings.{closing_failure, is_secret}
use Rattle.cv_kernel.specs.ClosingTrees.{closing_tree}
use Rattle.cv_kernel.specs.Sequences.{IsCloseAnswer}
use Rattle.cv_kernel.proofs.Answered.{answer_of, child_below, closed_fails}
use Rattle.cv_kernel.proofs.Closed.{closing_fits, same_cost}
use Rattle.cv_kernel.proofs.Countable.{certificate_countable}
use Rattle.cv_kernel.proofs.sequence.Sequence.close.Goals as goal

pub returns-then-is_closed-clause-answer : goal.returns-then-is_closed-clause-answer
returns-then-is_closed-clause-answer c =
    let old = c.args.self.now in
    let pool = c.args.work.now.pool in
    let s = scene_of pool c.args.work.now.decls old.game.root in
    let closing = closing_tree pool.trees c.args.closing in
    subst (λ e. IsCloseAnswer s (closing_failure s (numbers_of old.closed) closing) closing old old (Err e)) (sym c.refused.ensures)
    (closed_fails s (numbers_of old.closed) closing c.is_closed.result c.is_closed.ensures c.if-is_closed.true)

pub check-requires-clause-query : goal.check-requires-clause-query
check-requires-clause-query c = child_below (length c.args.work.now.pool.trees) c.query_numbered-query.result (c.query_numbered-query.ensures.live (length c.args.work.now.pool.trees) c.requires.declared)

pub check-requires-clause-few : goal.check-requires-clause-few
check-requires-clause-few c = certificate_countable (tree_at c.args.work.now.pool.trees c.args.closing.certificate) c.requires.short

pub returns-in-Some-clause-answer : goal.returns-in-Some-clause-answer
returns-in-Some-clause-answer c =
    let old = c.args.self.now in
    let pool = c.args.work.now.pool in
    let decls = c.args.work.now.decls in
    answer_of (scene_of pool decls old.game.root) (scene_of pool decls c.prepare.new.self.game.root) (numbers_of old.closed) (closing_tree pool.trees c.args.closing) c.is_closed.result _ _
    (ap (λ (g : Game). scene_of pool decls g.root) c.prepare.ensures.same.game) (c.query_numbered-query.ensures.tree pool.trees) (ap (option_map failure_of) (sym c.in-Some.is) ∙ c.in_ok-failure.ensures.failure) c.is_closed.ensures c.if-is_closed.false

pub with_cost-requires : goal.with_cost-requires
with_cost-requires c =
    let more = c.check.new.work in
    let mid = c.prepare.new.self in
    let s = scene_of more.pool more.decls mid.game.root in
    let certificate = tree_at more.pool.trees c.args.closing.certificate in
    let same = ap (λ (ts : List KindTree). nodes_of (tree_at ts c.args.closing.certificate)) c.check.ensures.trees in
    subst (λ (k : Cost). SumsFit (with_cost mid.sum k)) (sym c.in_ok-cost.ensures)
    (closing_fits mid.sum (cost_of (cost_of_certificate s certificate)) mid.steps c.prepare.ensures.stands.modest
    (let n = c.prepare.ensures.same.steps in omega (arith, c.requires.steps)) (omega (arith, coefficients_few s certificate, same, c.requires.short)))

pub returns-clause-answer : goal.returns-clause-answer
returns-clause-answer c =
    let old = c.args.self.now in
    let pool = c.args.work.now.pool in
    let decls = c.args.work.now.decls in
    let more = c.check.new.work in
    let certificate = c.args.closing.certificate in
    let same = c.prepare.ensures.same in
    let costs = c.in_ok-cost.ensures ∙ same_cost pool more.pool decls more.decls old.game c.prepare.new.self.game certificate c.check.ensures.trees c.check.ensures.decls same.game in
    let secrecy = c.is_secret-secrecy.ensures ∙ ap (λ (ts : List KindTree). is_secret (tree_at ts certificate)) c.check.ensures.trees in (
      answer_of (scene_of pool decls old.game.root) (scene_of pool decls c.prepare.new.self.game.root) (numbers_of old.closed) (closing_tree pool.trees c.args.closing) c.is_closed.result _ _
          (ap (λ (g : Game). scene_of pool decls g.root) same.game) (c.query_numbered-query.ensures.tree pool.trees) (ap (option_map failure_of) (sym c.in_default.is) ∙ c.in_ok-failure.ensures.failure) c.is_closed.ensures c.if-is_closed.false,
      record {
        game = same.game;
        steps = (let n = same.steps in omega arith);
        cost = ap Some costs;
        sum = same.sum;
        context = refl;
        closed =
            c.in_ok-note.ensures.put
            ∙ ap₂ (λ (cs : List ClosedQuery) (s : List Term). cs ++ record { query = c.args.closing.query; sum = s } ∷ []) same.closed
            (c.of.ensures ∙ ap₂ sum_for secrecy (c.in_ok-sums.ensures ∙ ap₂ with_cost same.sum costs));
      },
    )
