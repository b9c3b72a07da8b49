use Rattle.std.proofs.Common.{◌≡◌, ◌+◌, ◌-◌, ◌∙◌, ap, sym, arith, nat_eq, true}
use Rattle.std.specs.HashSet.{contains}
use Rattle.cv_inline.specs.Draws.{least_free}
use Rattle.cv_inline_draws.proofs.names.Tries.{passed}
use Rattle.cv_inline_draws.proofs.names.labels.free_label.Goals as goal

pub tries-preserved : goal.tries-preserved
tries-preserved c =
    let yes : contains nat_eq c.args.taken.now c.tries.label ≡ true = sym c.contains.ensures ∙ c.if-not-contains.false in
    let left : c.args.tries - (c.tries.counter + 1) ≡ (c.args.tries - c.tries.counter) - 1 = omega arith in
    record {
      label = let e = c.tries.invariant.label in omega arith;
      least = ap (λ k. least_free (contains nat_eq c.args.taken.now) k (c.tries.label + 1)) left ∙ (passed (contains nat_eq c.args.taken.now) (c.args.tries - c.tries.counter) c.tries.label (let h = c.tries-test.true in omega arith) yes ∙ c.tries.invariant.least);
    }
