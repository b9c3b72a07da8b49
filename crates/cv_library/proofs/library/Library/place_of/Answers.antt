use Rattle.std.proofs.Common.{◌≡◌, length, Some, None, sym, subst, refl, arith}
use Rattle.std.specs.Prelude.{slice_get}
use Rattle.std.proofs.lemmas.Option.{slice_get_read}
use Rattle.cv_library.specs.Libraries.{repeat_at}
use Rattle.cv_library.specs.Places.{IsInside}
use Rattle.cv_library.proofs.Finding.{found_at, found_nowhere, place_within}
use Rattle.cv_library.proofs.library.Library.place_of.Goals as goal

pub index-requires : goal.index-requires
index-requires c =
    let self = c.args.self.now in
    let here : slice_get self.names c.in-Some.id.0 ≡ Some c.args.name.now = (c.in-Some.ensures.found c.in-Some.id).0 refl in
    omega (arith, place_within self.tokens self.places.items self.names self.kept.names_are c.args.name.now c.in-Some.id.0 here, self.places.ok.0)

pub returns-in-None-clause-definition : goal.returns-in-None-clause-definition
returns-in-None-clause-definition c =
    let self = c.args.self.now in
    found_nowhere self.tokens self.places.items self.names self.kept.names_are c.args.name.now (c.in-None.ensures.none.0 refl)

pub returns-in-Some-clause-definition : goal.returns-in-Some-clause-definition
returns-in-Some-clause-definition c =
    let self = c.args.self.now in
    let here : slice_get self.names c.in-Some.id.0 ≡ Some c.args.name.now = (c.in-Some.ensures.found c.in-Some.id).0 refl in
    let within = place_within self.tokens self.places.items self.names self.kept.names_are c.args.name.now c.in-Some.id.0 here in
    found_at self.tokens self.places.items self.names self.kept.names_are c.args.name.now c.in-Some.id.0 c.index.result.now here
    (λ n h. let same = (c.in-Some.ensures.found (record { 0 = n })).1 h in cc)
    (slice_get_read self.places.items (length self.places.items) c.in-Some.id.0 c.index.result.now refl within c.index.ensures)

pub returns-in-Some-clause-inside : goal.returns-in-Some-clause-inside
returns-in-Some-clause-inside c =
    let self = c.args.self.now in
    let here : slice_get self.names c.in-Some.id.0 ≡ Some c.args.name.now = (c.in-Some.ensures.found c.in-Some.id).0 refl in
    let within = place_within self.tokens self.places.items self.names self.kept.names_are c.args.name.now c.in-Some.id.0 here in
    subst (IsInside self.tokens) (sym c.index.ensures) (self.kept.inside c.in-Some.id.0 c.index.result.now within)

pub returns-in-Some-clause-apart : goal.returns-in-Some-clause-apart
returns-in-Some-clause-apart c =
    let self = c.args.self.now in
    let here : slice_get self.names c.in-Some.id.0 ≡ Some c.args.name.now = (c.in-Some.ensures.found c.in-Some.id).0 refl in
    let within = place_within self.tokens self.places.items self.names self.kept.names_are c.args.name.now c.in-Some.id.0 here in
    subst (λ p. repeat_at self.tokens p ≡ None) (sym c.index.ensures) (self.kept.apart c.in-Some.id.0 c.index.result.now within)
