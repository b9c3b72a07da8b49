use Rattle.std.proofs.Common.{◌≡◌, ap, sym, ◌∙◌, subst, arith, Some, length}
use Rattle.std.specs.Prelude.{All, ◌≢◌, is_some, true, false}
use Rattle.std.specs.HashMap.{get}
use Rattle.cv_settling_overview.specs.contracts.keys.KeyPartialEq.TheImpl.{ghosts}
use Rattle.cv_settling_overview.specs.declared.keys.Conjunct.{Conjunct}
use Rattle.cv_settling_overview.specs.Keys.{AreKeysPlaced, IsAt}
use Rattle.cv_settling_overview.proofs.Placing.{found_place, nowhere, placed_again, placed_new, placed_other, placed_same}
use Rattle.cv_settling_overview.proofs.keys.Conjuncts.add.Goals as goal

pub invariant_of-self-then-is_some : goal.invariant_of-self-then-is_some
invariant_of-self-then-is_some c =
    let cs = c.self.inside.list.items in
    let found = found_place (λ k. IsAt c.args.self.now k c.args.conjunct.key) c.place.result c.place.ensures.some (sym c.is_some.ensures ∙ c.if-is_some.true) in
    let there : IsAt cs found.0 c.args.conjunct.key = subst (λ l. IsAt l found.0 c.args.conjunct.key) (sym c.self.view_is) found.1 in
    subst (λ l. AreKeysPlaced l c.self.inside.places) (sym c.in_ok-push.ensures.items) (placed_again cs c.args.conjunct c.self.inside.places found.0 c.self.invariant there)

pub invariant_of-self-in_err-insert : goal.invariant_of-self-in_err-insert
invariant_of-self-in_err-insert c = placed_same c.self.inside.list.items c.self.inside.places c.insert.new.self c.self.invariant c.in_err-insert.ensures.err

pub invariant_of-self-in_err-push-2 : goal.invariant_of-self-in_err-push-2
invariant_of-self-in_err-push-2 c =
    let cs = c.self.inside.list.items in
    let key = c.args.conjunct.key in
    let new : All (λ (d : Conjunct). d.key ≢ key) cs = subst (All (λ (d : Conjunct). d.key ≢ key)) (sym c.self.view_is) (nowhere _ c.place.result c.place.ensures.none (sym c.is_some.ensures ∙ c.if-is_some.false)) in
    subst (λ l. AreKeysPlaced l c.insert.new.self) (sym c.in_err-push-2.ensures.items) (placed_other cs c.self.inside.places c.insert.new.self key _ c.self.invariant new c.in_ok-insert.ensures.updates)

pub invariant_of-self-2 : goal.invariant_of-self-2
invariant_of-self-2 c =
    let cs = c.self.inside.list.items in
    let key = c.args.conjunct.key in
    let new : All (λ (d : Conjunct). d.key ≢ key) cs = subst (All (λ (d : Conjunct). d.key ≢ key)) (sym c.self.view_is) (nowhere _ c.place.result c.place.ensures.none (sym c.is_some.ensures ∙ c.if-is_some.false)) in
    let placed = placed_other cs c.self.inside.places c.insert.new.self key _ c.self.invariant new c.in_ok-insert.ensures.updates in
    let there : get ghosts.eq c.insert.new.self key ≡ Some (length cs) = c.in_ok-insert.ensures.updates.1 ∙ ap (λ n. Some n) (let n : c.len.result ≡ length cs = omega arith in n) in
    subst (λ l. AreKeysPlaced l c.insert.new.self) (sym c.in_ok-push-2.ensures.items) (placed_new cs c.args.conjunct c.insert.new.self placed there)
