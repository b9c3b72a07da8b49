use Rattle.cv_query.proofs.pairs.Growing.{as_before}
use Rattle.cv_query.proofs.pairs.Unproved.{derived_pair, underived_pair}
use Rattle.cv_query.proofs.pairs.testing.first_unproved.Goals as goal

pub returns-then-not-branch-clause-first : goal.returns-then-not-branch-clause-first
returns-then-not-branch-clause-first c =
    underived_pair c.args.work.now c.pairs.work c.pairs.invariant.before c.args.game c.args.taken.now.raise c.args.taken.now.distinct.now
    c.args.met.now c.pairs.k c.pairs-test.true _ c.in_ok-proves_pair.field-0 c.in_ok-proves_pair.ensures.proves _ c.pairs.invariant.same
    c.if-not-branch.true

pub pairs-preserved : goal.pairs-preserved
pairs-preserved c = record {
  before = as_before c.args.work.now c.pairs.work c.pairs.invariant.before c.proves_pair.new.work c.proves_pair.ensures.before;
  same =
      derived_pair c.args.work.now c.pairs.work c.pairs.invariant.before c.args.game c.args.taken.now.raise c.args.taken.now.distinct.now
      c.args.met.now c.pairs.k c.pairs-test.true _ c.in_ok-proves_pair.field-0 c.in_ok-proves_pair.ensures.proves _ c.pairs.invariant.same
      c.if-not-branch.false;
}
