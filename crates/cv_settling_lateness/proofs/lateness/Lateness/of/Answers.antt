use Rattle.std.proofs.Common.{◌++◌, Some, refl, ap, subst, ◌∙◌, arith}
use Rattle.std.specs.List.Sorted.{IsPermutation}
use Rattle.cv_syntax.specs.PoolTrees.{tree_at}
use Rattle.cv_settling_lateness.specs.Defining.{definitions}
use Rattle.cv_settling_lateness.proofs.lateness.Lateness.of.Goals as goal

pub note-requires-clause-fits : goal.note-requires-clause-fits
note-requires-clause-fits c = omega (arith, c.nodes_up_to-total.ensures.few (omega (arith, c.if-total-gt-MOST.false)) (omega arith), c.if-total-gt-MOST.false)

pub note-requires-clause-sizes : goal.note-requires-clause-sizes
note-requires-clause-sizes c = c.new-sizes.ensures c.args.pool.now.trees

pub returns-then-total-gt-MOST : goal.returns-then-total-gt-MOST
returns-then-total-gt-MOST c few = absurd (omega (arith, c.nodes_up_to-total.ensures.least, c.if-total-gt-MOST.true, few))

pub returns : goal.returns
returns c few =
    let whole = tree_at c.args.pool.now.trees (Some c.args.game) in
    record {
      root = refl;
      few = few;
      total = c.nodes_up_to-total.ensures.few (omega (arith, c.if-total-gt-MOST.false)) (omega arith);
      noted =
          subst (λ ds. IsPermutation ds c.sort.new.self.list.items) (c.in_ok-note.ensures.definitions ∙ ap (λ ds. ds ++ definitions 0 whole) c.new-definitions.ensures) c.sort.ensures.permutation;
      sorted = c.sort.ensures.sorted;
      sizes = c.in_ok-note.ensures.sizes;
    }
