use Rattle.std.proofs.Common.{◌≡◌, ◌<◌, ℕ, refl, ap, sym, ◌∙◌, subst, Some, None, List, length, get_or}
use Rattle.std.specs.Prelude.{slice_get}
use Rattle.std.specs.Option.{option_copied}
use Rattle.std.proofs.lemmas.Option.{slice_get_past, slice_get_read}
use Rattle.cv_syntax.specs.declared.decls.Decl.{Decl}
use Rattle.cv_syntax.specs.Classes.{DeclsView, declaration_in}
use Rattle.cv_syntax.proofs.Indexed.{found_none, found_past, found_skip, found_here}
use Rattle.cv_syntax.proofs.decls.Decls.find.Goals as goal

here : (xs ys : List ℕ) (i x : ℕ) → ys ≡ xs → i < length ys → x ≡ get_or ys i x → slice_get xs i ≡ Some x
here xs ys i x e l g = ap (λ zs. slice_get zs i) (sym e) ∙ slice_get_read ys (length ys) i x refl l g

pub returns-in_err-place-clause-found : goal.returns-in_err-place-clause-found
returns-in_err-place-clause-found c = ap option_copied c.from_residual.ensures ∙ sym (subst (λ (ds : List Decl). declaration_in ds c.args.id.0 ≡ None) (ap (λ (v : DeclsView). v.list) c.self.view_is) (found_none c.self.inside.list.items c.self.inside.index.items c.args.id.0 c.self.invariant.0 (ap (λ zs. slice_get zs c.args.id.0) (sym c.deref.ensures.value) ∙ slice_get_past c.deref.result.now c.args.id.0 c.in_err-place.ensures.lookup.3)))

pub returns-in_err-decl-clause-found : goal.returns-in_err-decl-clause-found
returns-in_err-decl-clause-found c = ap option_copied c.from_residual-in_err-decl.ensures ∙ sym (subst (λ (ds : List Decl). declaration_in ds c.args.id.0 ≡ None) (ap (λ (v : DeclsView). v.list) c.self.view_is) (found_past c.self.inside.list.items c.self.inside.index.items c.args.id.0 c.in_ok-place.field-0.now c.self.invariant.0 (here _ _ _ _ c.deref.ensures.value c.in_ok-place.ensures.lookup.3.0 c.in_ok-place.ensures.lookup.1) (ap (λ (ds : List Decl). slice_get ds c.in_ok-place.field-0.now) (ap (λ (v : DeclsView). v.list) c.self.view_is) ∙ sym c.in_err-decl.ensures)))

pub returns-in_err-declared-clause-found : goal.returns-in_err-declared-clause-found
returns-in_err-declared-clause-found c = ap option_copied c.from_residual-in_err-declared.ensures ∙ sym (subst (λ (ds : List Decl). declaration_in ds c.args.id.0 ≡ None) (ap (λ (v : DeclsView). v.list) c.self.view_is) (found_skip c.self.inside.list.items c.self.inside.index.items c.args.id.0 c.in_ok-place.field-0.now c.in_ok-decl.decl.now c.self.invariant.0 (here _ _ _ _ c.deref.ensures.value c.in_ok-place.ensures.lookup.3.0 c.in_ok-place.ensures.lookup.1) (ap (λ (ds : List Decl). slice_get ds c.in_ok-place.field-0.now) (ap (λ (v : DeclsView). v.list) c.self.view_is) ∙ sym c.in_ok-decl.ensures) (λ e. let f = c.in_err-declared.ensures ∙ e in absurd (cc))))

pub returns-then-declared-id-clause-found : goal.returns-then-declared-id-clause-found
returns-then-declared-id-clause-found c = sym (subst (λ (ds : List Decl). declaration_in ds c.args.id.0 ≡ Some c.in_ok-decl.decl.now) (ap (λ (v : DeclsView). v.list) c.self.view_is) (found_here c.self.inside.list.items c.self.inside.index.items c.args.id.0 c.in_ok-place.field-0.now c.in_ok-decl.decl.now c.self.invariant.0 (here _ _ _ _ c.deref.ensures.value c.in_ok-place.ensures.lookup.3.0 c.in_ok-place.ensures.lookup.1) (ap (λ (ds : List Decl). slice_get ds c.in_ok-place.field-0.now) (ap (λ (v : DeclsView). v.list) c.self.view_is) ∙ sym c.in_ok-decl.ensures) (sym c.in_ok-declared.ensures ∙ ap (λ n. Some n) c.if-declared-id.true)))

pub returns-else-declared-id-clause-found : goal.returns-else-declared-id-clause-found
returns-else-declared-id-clause-found c = sym (subst (λ (ds : List Decl). declaration_in ds c.args.id.0 ≡ None) (ap (λ (v : DeclsView). v.list) c.self.view_is) (found_skip c.self.inside.list.items c.self.inside.index.items c.args.id.0 c.in_ok-place.field-0.now c.in_ok-decl.decl.now c.self.invariant.0 (here _ _ _ _ c.deref.ensures.value c.in_ok-place.ensures.lookup.3.0 c.in_ok-place.ensures.lookup.1) (ap (λ (ds : List Decl). slice_get ds c.in_ok-place.field-0.now) (ap (λ (v : DeclsView). v.list) c.self.view_is) ∙ sym c.in_ok-decl.ensures) (λ e. c.if-declared-id.false (let f = c.in_ok-declared.ensures ∙ e in cc))))
