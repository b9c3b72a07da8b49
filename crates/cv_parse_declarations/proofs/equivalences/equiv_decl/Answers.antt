use Rattle.std.proofs.Common.{◌∙◌}
use Rattle.std.proofs.lemmas.Result.{err_from_is_err_and}
use Rattle.cv_parse_declarations.proofs.DeclaredEquivalence.{equivalence_declared, equivalence_fails}
use Rattle.cv_parse_declarations.proofs.equivalences.equiv_decl.Goals as goal

pub returns-in_err-place : goal.returns-in_err-place
returns-in_err-place c =
    let p = err_from_is_err_and c.from_residual.result c.from_residual.ensures.1 in
    record { declares = rw (p.1, p.2) (equivalence_fails c.args.depth c.args.signs.now c.args.at c.args.trail.now c.new-names.result.items _ c.new-names.ensures.items c.in_err-place.ensures) }

pub returns : goal.returns
returns c = record {
  declares = equivalence_declared c.args.depth c.args.signs.now c.args.at c.in_ok-place.place c.in_ok-name.name c.args.trail.now c.enter_with_names.new.trail c.new-names.result.items c.enter_with_names.new.names.items c.args.heard.now.items _ c.new-names.ensures.items c.in_ok-place.ensures (c.in_ok-name.ensures.value ∙ c.taken.ensures.leaves.0) c.in_ok-push.ensures.items;
}
