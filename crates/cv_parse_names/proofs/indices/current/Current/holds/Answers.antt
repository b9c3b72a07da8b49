use Rattle.std.proofs.Common.{◌≡◌, ◌≤◌, nat_eq, false, List, ℕ, length, take, subst, sym, ap, ◌∙◌, arith, get_or}
use Rattle.std.proofs.lemmas.List.{get_or_default}
use Rattle.std.proofs.lemmas.Bool.{le-ltb}
use Rattle.cv_parse_names.proofs.indices.Keeping.{is_among, there, not_within, not_there}
use Rattle.cv_parse_names.proofs.indices.current.Current.holds.Goals as goal

pub returns-then-place-count : goal.returns-then-place-count
returns-then-place-count c =
    let names = c.self.inside.names.items in
    let few : c.args.count ≤ length names = subst (λ (l : List ℕ). c.args.count ≤ length l) (sym c.self.view_is) c.requires in
    ap (λ i. nat_eq i c.args.name) (c.index.ensures ∙ get_or_default names c.in-Some.place.now c.index.result.now 0 (omega arith))
    ∙ subst (λ (l : List ℕ). nat_eq (get_or names c.in-Some.place.now 0) c.args.name ≡ is_among (take c.args.count l) c.args.name) c.self.view_is
    (there names c.self.inside.places c.args.count c.args.name c.in-Some.place.now c.self.invariant few (sym c.in-Some.ensures.value) c.if-place-count.true)

pub returns-else-place-count : goal.returns-else-place-count
returns-else-place-count c =
    let names = c.self.inside.names.items in
    let few : c.args.count ≤ length names = subst (λ (l : List ℕ). c.args.count ≤ length l) (sym c.self.view_is) c.requires in
    le-ltb c.in-Some.place.now c.args.count c.if-place-count.false
    ∙ subst (λ (l : List ℕ). false ≡ is_among (take c.args.count l) c.args.name) c.self.view_is
    (not_within names c.self.inside.places c.args.count c.args.name c.in-Some.place.now c.self.invariant few (sym c.in-Some.ensures.value) c.if-place-count.false)

pub returns-in-None : goal.returns-in-None
returns-in-None c =
    let names = c.self.inside.names.items in
    let few : c.args.count ≤ length names = subst (λ (l : List ℕ). c.args.count ≤ length l) (sym c.self.view_is) c.requires in
    subst (λ (l : List ℕ). false ≡ is_among (take c.args.count l) c.args.name) c.self.view_is
    (not_there names c.self.inside.places c.args.count c.args.name c.self.invariant few (sym c.in-None.ensures.value))
