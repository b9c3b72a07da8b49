use Rattle.std.proofs.Common.{◌≡◌, ◌+◌, ◌≤◌, reverse, vec_len, vec_capacity}
use Rattle.cv_bound.specs.Sums.{AllFit, with_terms}
use Rattle.cv_bound.proofs.terms.put_all.Given as goal

abbrev pub invariant-left : goal.invariant-left
invariant-left l = record {
  room : vec_len l.terms + vec_len l.left ≤ vec_capacity l.terms;
  fits : AllFit (with_terms l.terms.items (reverse l.left.items));
  same : with_terms l.terms.items (reverse l.left.items) ≡ with_terms l.fn.terms.items l.fn.more.items;
}

abbrev pub decreases-left : goal.decreases-left
decreases-left l = vec_len l.left
