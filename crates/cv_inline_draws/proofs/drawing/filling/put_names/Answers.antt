use Rattle.std.proofs.Common.{◌≡◌, ◌+◌, ◌-◌, ◌∙◌, ap, arith, drop, length}
use Rattle.cv_meaning.specs.contexts.Inlined.{Drawn}
use Rattle.cv_inline.specs.terms.Drawings.{drawn_in}
use Rattle.cv_inline_draws.specs.drawing.Tables.{with_names}
use Rattle.cv_inline_draws.proofs.drawing.Filled.{least_is_one, names_begin, names_more}
use Rattle.cv_inline_draws.proofs.drawing.filling.put_names.Goals as goal

pub draws-init : goal.draws-init
draws-init c =
    let ds = c.args.draws.now in
    let xs = c.args.names.now in
    let left = c.least-left.result in
    record {
      draws = omega (arith, c.least-left.ensures);
      names = omega (arith, c.least-left.ensures);
      same = names_begin ds xs (drawn_in c.args.drawing.now) left (least_is_one (length ds) (length xs) left c.least-left.ensures);
    }

pub draws-preserved : goal.draws-preserved
draws-preserved c =
    let ds = c.args.draws.now in
    let xs = c.args.names.now in
    let start : Drawn = drawn_in c.args.drawing.now in
    let i = c.draws.left - 1 in
    let back : c.draws.left ≡ i + 1 = omega arith in
    record {
      draws = omega (arith, c.draws.invariant.draws);
      names = omega (arith, c.draws.invariant.names);
      same = names_more ds xs start (drawn_in c.draws.drawing) (drawn_in c.put_name.new.drawing) i _ _ (omega (arith, c.draws.invariant.draws)) (omega (arith, c.draws.invariant.names)) (c.draws.invariant.same ∙ ap (λ k. with_names (drop k ds) (drop k xs) start) back) c.in_ok-put_name.ensures;
    }
