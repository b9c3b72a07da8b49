use Rattle.std.proofs.Common.{◌≡◌, Some, ◌∙◌, sym}
use Rattle.std.specs.Prelude.{slice_get}
use Rattle.cv_inline_draws.proofs.names.Texts.{is_among_none, is_among_one}
use Rattle.cv_inline_draws.proofs.names.names.is_taken.Goals as goal

pub returns-in-Some : goal.returns-in-Some
returns-in-Some c =
    let id = c.in-Some.id in
    let here : slice_get c.args.names.now id.0 ≡ Some c.args.text.now = (c.in-Some.ensures.found id).0 (cc) in
    c.is_listed.ensures ∙ is_among_one c.args.names.now c.args.taken.now c.args.text.now id.0 c.requires here (λ n h. let same = (c.in-Some.ensures.found (record { 0 = n })).1 h in cc)

pub returns-in-None : goal.returns-in-None
returns-in-None c = sym (is_among_none c.args.names.now c.args.taken.now c.args.text.now c.requires (λ n. c.in-None.ensures.none.0 (cc) n))
