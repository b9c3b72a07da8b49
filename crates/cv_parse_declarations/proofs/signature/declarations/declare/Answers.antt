use Rattle.std.proofs.lemmas.Result.{err_from_is_err_and}
use Rattle.cv_parse_declarations.proofs.signature.Declaring.{declares_kind, kind_fails}
use Rattle.cv_parse_declarations.proofs.signature.declarations.declare.Goals as goal

pub returns-in_err-place : goal.returns-in_err-place
returns-in_err-place c =
    let p = err_from_is_err_and c.from_residual.result c.from_residual.ensures.1 in
    record { declares = rw (p.1, p.2) (kind_fails c.args.kind c.args.depth c.row_of.result c.args.signs.now c.args.at c.args.trail.now c.new-names.result.items _ c.row_of.ensures c.new-names.ensures.items c.in_err-place.ensures) }

pub returns : goal.returns
returns c = record {
  declares = declares_kind c.args.kind c.args.depth c.row_of.result c.args.signs.now c.args.at c.in_ok-place.place c.args.trail.now c.enter_with_names.new.trail c.new-names.result.items c.enter_with_names.new.names.items c.args.heard.now.items c.hear.new.heard.items c.row_of.ensures c.new-names.ensures.items c.in_ok-place.ensures c.in_ok-hear.ensures.heard;
}
