use Rattle.std.proofs.Common.{arith, ◌≡◌, ap, sym, ◌∙◌, subst, true, false, Some, length, nat_eq}
use Rattle.std.specs.HashMap.{get}
use Rattle.cv_scope.specs.tables.Ordered.{AreNumbersPlaced, has_number}
use Rattle.cv_scope.proofs.tables.Listing.{placed_again, placed_new, placed_none, placed_other, placed_same}
use Rattle.cv_scope.proofs.tables.listed.Listed.add.Goals as goal

pub invariant_of-self-in_default : goal.invariant_of-self-in_default
invariant_of-self-in_default c = subst (λ l. AreNumbersPlaced l c.self.inside.places) (sym c.in_ok-push.ensures.items) (placed_none c.self.inside.list.items c.self.inside.places c.self.invariant)

pub invariant_of-self-then-has : goal.invariant_of-self-then-has
invariant_of-self-then-has c =
    let cells = c.self.inside.list.items in
    let there : has_number cells c.in-Some.node.0 ≡ true = ap (λ l. has_number l c.in-Some.node.0) c.self.view_is ∙ (sym c.has.ensures ∙ c.if-has.true) in
    subst (λ l. AreNumbersPlaced l c.self.inside.places) (sym c.in_ok-push-2.ensures.items) (placed_again cells c.in-Some.node c.self.inside.places c.self.invariant there)

pub invariant_of-self-in_err-insert : goal.invariant_of-self-in_err-insert
invariant_of-self-in_err-insert c = placed_same c.self.inside.list.items c.self.inside.places c.insert.new.self c.self.invariant c.in_err-insert.ensures.err

pub invariant_of-self-in_err-push-3 : goal.invariant_of-self-in_err-push-3
invariant_of-self-in_err-push-3 c =
    let cells = c.self.inside.list.items in
    let new : has_number cells c.in-Some.node.0 ≡ false = ap (λ l. has_number l c.in-Some.node.0) c.self.view_is ∙ (sym c.has.ensures ∙ c.if-has.false) in
    subst (λ l. AreNumbersPlaced l c.insert.new.self) (sym c.in_err-push-3.ensures.items) (placed_other cells c.self.inside.places c.insert.new.self c.in-Some.node.0 _ c.self.invariant new c.in_ok-insert.ensures.updates)

pub invariant_of-self-2 : goal.invariant_of-self-2
invariant_of-self-2 c =
    let cells = c.self.inside.list.items in
    let new : has_number cells c.in-Some.node.0 ≡ false = ap (λ l. has_number l c.in-Some.node.0) c.self.view_is ∙ (sym c.has.ensures ∙ c.if-has.false) in
    let placed = placed_other cells c.self.inside.places c.insert.new.self c.in-Some.node.0 _ c.self.invariant new c.in_ok-insert.ensures.updates in
    let there : get nat_eq c.insert.new.self c.in-Some.node.0 ≡ Some (length cells) = c.in_ok-insert.ensures.updates.1 ∙ ap (λ n. Some n) (let n : c.len.result ≡ length cells = omega arith in n) in
    subst (λ l. AreNumbersPlaced l c.insert.new.self) (sym c.in_ok-push-3.ensures.items) (placed_new cells c.in-Some.node c.insert.new.self placed there)
