use Rattle.std.proofs.Common.{◌<◌, ◌≤◌, length, ap, arith, ◌∙◌}
use Rattle.cv_inline.specs.declared.terms.calling.Calling.{Calling}
use Rattle.cv_inline_measure.proofs.Sites.{place_found, place_none}
use Rattle.cv_inline_measure.proofs.calls.place_of_site.Goals as goal

pub returns-then-callings-place : goal.returns-then-callings-place
returns-then-callings-place c = λ trees.
    let h : c.sites.place < length c.args.callings.now = omega arith in
    place_found trees c.args.callings.now c.args.number c.sites.place c.index-callings-place.result h c.index-callings-place.is (ap (λ (k : Calling). k.caller.number) c.index-callings-place.is ∙ c.if-callings-place.true) (c.sites.invariant trees)

pub returns : goal.returns
returns c = λ trees.
    let h : length c.args.callings.now ≤ c.sites.place = omega arith in
    place_none trees c.args.callings.now c.args.number c.sites.place h (c.sites.invariant trees)
