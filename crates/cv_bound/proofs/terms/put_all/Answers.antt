use Rattle.std.proofs.Common.{◌∙◌, ap, sym, subst, reverse, arith}
use Rattle.cv_bound.specs.Sums.{AllFit, with_terms}
use Rattle.cv_bound.proofs.Merging.{taken, taken_fits, all_taken}
use Rattle.cv_bound.proofs.terms.put_all.Goals as goal

pub put-requires-clause-fits : goal.put-requires-clause-fits
put-requires-clause-fits c = taken_fits c.left.terms.items _ _ c.in-Some.term c.in-Some.ensures.items c.left.invariant.fits

pub left-preserved : goal.left-preserved
left-preserved c =
    let same = ap (λ ts. with_terms ts (reverse c.pop.new.self.items)) c.put.ensures.items ∙ sym (taken c.left.terms.items _ _ c.in-Some.term c.in-Some.ensures.items) in
    record {
      room = omega (arith, c.in-Some.ensures.len);
      fits = subst AllFit (sym same) c.left.invariant.fits;
      same = same ∙ c.left.invariant.same;
    }

pub returns : goal.returns
returns c = all_taken c.left.terms.items c.left.left.items _ (omega (arith, c.in_default.ensures.cases.0)) c.left.invariant.same
