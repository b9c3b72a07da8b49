use Rattle.std.proofs.Common.{◌∙◌}
use Rattle.std.proofs.lemmas.Result.{err_from_is_err_and}
use Rattle.cv_parse_declarations.proofs.signature.Entries.{probability_fails, probability_read}
use Rattle.cv_parse_declarations.proofs.signature.collisions.probability.Goals as goal

pub returns-in_err-place-clause-gives : goal.returns-in_err-place-clause-gives
returns-in_err-place-clause-gives c =
    let p = err_from_is_err_and c.from_residual.result c.from_residual.ensures.1 in
    rw (p.1, p.2) (probability_fails c.args.depth c.args.signs.now c.args.at c.args.trail.now c.new-names.result.items _ c.new-names.ensures.items c.in_err-place.ensures)

pub returns-clause-gives : goal.returns-clause-gives
returns-clause-gives c = (probability_read c.args.depth c.args.signs.now c.args.at c.in_ok-place.place c.in_ok-name.name c.args.trail.now c.enter_with_names.new.trail c.new-names.result.items c.enter_with_names.new.names.items c.new-names.ensures.items c.in_ok-place.ensures (c.in_ok-name.ensures.value ∙ c.taken.ensures.leaves.0)).0

pub returns-clause-makes : goal.returns-clause-makes
returns-clause-makes c = (probability_read c.args.depth c.args.signs.now c.args.at c.in_ok-place.place c.in_ok-name.name c.args.trail.now c.enter_with_names.new.trail c.new-names.result.items c.enter_with_names.new.names.items c.new-names.ensures.items c.in_ok-place.ensures (c.in_ok-name.ensures.value ∙ c.taken.ensures.leaves.0)).1
