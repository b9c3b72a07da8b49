use Rattle.std.proofs.Common.{arith, ap, sym, subst, length, length-append, List, [], ◌∷◌}
use Rattle.std.specs.Prelude.{All}
use Rattle.cv_syntax.specs.declared.decls.Decl.{Decl}
use Rattle.cv_syntax.specs.Classes.{DeclsView, IsIndexed, IsNamed}
use Rattle.cv_syntax.proofs.Indexed.{IsIndexed_note, IsIndexed_push, IsNamed_push}
use Rattle.cv_syntax.proofs.decls.Decls.add.Goals as goal

pub invariant_of-self : goal.invariant_of-self
invariant_of-self c =
    (IsIndexed_note _ _ _ _ c.args.decl (ap (λ (v : DeclsView). v.list) c.self.view_is) c.self.invariant.0 c.requires.new c.note.ensures.others, c.self.invariant.1, c.self.invariant.2)

pub invariant_of-self-in_err-push : goal.invariant_of-self-in_err-push
invariant_of-self-in_err-push c =
    let noted = IsIndexed_note _ _ _ _ c.args.decl (ap (λ (v : DeclsView). v.list) c.self.view_is) c.self.invariant.0 c.requires.new c.note.ensures.others in
    (subst (λ (ds : List Decl). IsIndexed ds c.note.new.index.items) (sym c.in_err-push.ensures.items) noted, omega (arith, ap length c.in_err-push.ensures.items, c.self.invariant.1), subst (All IsNamed) (sym c.in_err-push.ensures.items) c.self.invariant.2)

pub invariant_of-self-2 : goal.invariant_of-self-2
invariant_of-self-2 c =
    let ds = c.self.inside.list.items in
    let d = c.args.decl in
    let same = ap (λ (v : DeclsView). v.list) c.self.view_is in
    let noted = IsIndexed_note _ _ _ _ d same c.self.invariant.0 c.requires.new c.note.ensures.others in
    (subst (λ (es : List Decl). IsIndexed es c.note.new.index.items) (sym c.in_ok-push.ensures.items) (IsIndexed_push ds c.note.new.index.items d c.len-place.result noted (omega arith) c.in_ok-note.ensures.here), omega (arith, ap length c.in_ok-push.ensures.items, length-append ds (d ∷ []), ap length same, c.requires.few), IsNamed_push ds c.push.new.self.items d c.in_ok-push.ensures.items c.self.invariant.2 c.requires.named)
