use Rattle.std.proofs.Common.{◌++◌, ◌∷◌, [], arith, refl, ap, sym, ◌∙◌, subst}
use Rattle.cv_syntax.specs.Classes.{DeclsView, IsNamed, IsNew}
use Rattle.cv_parse.proofs.Declarings.{left_ends, left_goes, longer, named_at, new_at}
use Rattle.cv_parse.proofs.declaring.declare_all.Goals as goal

pub heard-init : goal.heard-init
heard-init c = record { few = omega arith; left = record { named = c.requires.named; distinct = c.requires.distinct; is = refl }; own = refl }

pub add-requires-clause-new : goal.add-requires-clause-new
add-requires-clause-new c = subst (IsNew c.heard.decls.list) (sym c.decl_of.ensures) (new_at c.heard.decls.list c.args.heard.now c.args.roots.now _ _ c.heard.k _ (omega arith) c.heard.invariant.left)

pub add-requires-clause-named : goal.add-requires-clause-named
add-requires-clause-named c = subst IsNamed (sym c.decl_of.ensures) (named_at c.heard.decls.list c.args.heard.now c.args.roots.now _ _ c.heard.k _ (omega arith) c.heard.invariant.left)

pub heard-preserved : goal.heard-preserved
heard-preserved c =
    let e = ap (λ (v : DeclsView). v.list) c.in_ok-add.ensures.ok in
    record {
      few = (let one = longer c.heard.decls.list _ _ e in omega arith);
      left = left_goes c.heard.decls.list _ c.args.heard.now c.args.roots.now _ _ c.heard.k _ (omega arith) (omega arith) c.heard.invariant.left (e ∙ ap (λ d. c.heard.decls.list ++ d ∷ []) c.decl_of.ensures);
      own = ap (λ (v : DeclsView). v.own) c.in_ok-add.ensures.ok ∙ c.heard.invariant.own;
    }

pub returns-clause-list : goal.returns-clause-list
returns-clause-list c = left_ends c.heard.decls.list c.args.heard.now c.args.roots.now c.heard.k _ (omega arith) c.heard.invariant.left
