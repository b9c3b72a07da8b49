use Rattle.std.proofs.Common.{arith, ◌≡◌, sym, ◌∙◌, subst, ap, false, Some, length}
use Rattle.cv_scope.specs.tables.Ordered.{IsPlaced}
use Rattle.cv_scope.specs.tables.Places.{place_of}
use Rattle.cv_scope.specs.tables.Definitions.{is_defined}
use Rattle.cv_scope.proofs.tables.Stacks.{placed_insert, placed_push}
use Rattle.cv_scope.proofs.tables.defined.Defined.add.Goals as goal

pub invariant_of-self-in_err-push : goal.invariant_of-self-in_err-push
invariant_of-self-in_err-push c =
    let new : is_defined c.self.inside.list.items (c.args.variable, c.args.indices) ≡ false = ap (λ ds. is_defined ds (c.args.variable, c.args.indices)) c.self.view_is ∙ (sym c.has.ensures ∙ c.if-has.false) in
    subst (λ ds. IsPlaced ds c.insert.new.self) (sym c.in_err-push.ensures.items) (placed_insert c.self.inside.list.items c.self.inside.places c.insert.new.self (c.args.variable, c.args.indices) c.self.invariant new c.insert.ensures.same)

pub invariant_of-self-2 : goal.invariant_of-self-2
invariant_of-self-2 c =
    let new : is_defined c.self.inside.list.items (c.args.variable, c.args.indices) ≡ false = ap (λ ds. is_defined ds (c.args.variable, c.args.indices)) c.self.view_is ∙ (sym c.has.ensures ∙ c.if-has.false) in
    let placed = placed_insert c.self.inside.list.items c.self.inside.places c.insert.new.self (c.args.variable, c.args.indices) c.self.invariant new c.insert.ensures.same in
    let there : place_of c.insert.new.self (c.args.variable, c.args.indices) ≡ Some (length c.self.inside.list.items) = c.in_ok-insert.ensures.there ∙ ap (λ n. Some n) (let n : c.len.result ≡ length c.self.inside.list.items = omega arith in n) in
    placed_push c.self.inside.list.items c.push.new.self.items c.insert.new.self (c.args.variable, c.args.indices) placed there c.in_ok-push.ensures.items

pub invariant_of-self : goal.invariant_of-self
invariant_of-self c =
    let new : is_defined c.self.inside.list.items (c.args.variable, c.args.indices) ≡ false = ap (λ ds. is_defined ds (c.args.variable, c.args.indices)) c.self.view_is ∙ (sym c.has.ensures ∙ c.if-has.false) in
    placed_insert c.self.inside.list.items c.self.inside.places c.insert.new.self (c.args.variable, c.args.indices) c.self.invariant new c.insert.ensures.same
