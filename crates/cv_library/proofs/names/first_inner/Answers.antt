use Rattle.std.proofs.Common.{arith}
use Rattle.std.proofs.lemmas.List.{drop_more}
use Rattle.cv_library.proofs.Tabling.{bodies_found, bodies_on, bodies_over}
use Rattle.cv_library.proofs.names.first_inner.Goals as goal

pub returns-in-Some : goal.returns-in-Some
returns-in-Some c =
    let ps = c.args.places.now in
    bodies_found c.args.tokens.now ps c.places.place-index _ (drop_more ps c.places.place-index (record { word = 0; brace = 0; end = 0 }) c.places-test.true) c.in-Some.k c.in-Some.ensures c.places.invariant

pub places-preserved : goal.places-preserved
places-preserved c =
    let ps = c.args.places.now in
    bodies_on c.args.tokens.now ps c.places.place-index _ (drop_more ps c.places.place-index (record { word = 0; brace = 0; end = 0 }) c.places-test.true) c.in_default.ensures c.places.invariant

pub returns : goal.returns
returns c = bodies_over c.args.tokens.now c.args.places.now c.places.place-index (omega arith) c.places.invariant
