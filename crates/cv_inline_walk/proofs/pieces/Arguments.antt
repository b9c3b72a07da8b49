-- A call by its first argument.
use Rattle.std.proofs.Common.{◌≡◌, List, ◌∷◌, Some, None, refl, ap}
use Rattle.cv_syntax_trees.specs.declared.head.Head.TheVariants.{Binder, Let}
use Rattle.cv_syntax_trees.specs.Tree.{Tree, Empty, Node}
use Rattle.cv_meaning.specs.Correspondences.{typed_names}
use Rattle.cv_meaning.specs.contexts.Inlined.{Caller, Drawn, Own, Scope, inlined_body, inlined_call}
use Rattle.cv_inline_sites.specs.Calls.{Argument, first_argument}

module _ (d : Drawn) (ss : List Caller) (c : Caller) (Σ : Scope) (body : Tree) (k : Tree → Tree) where
  abbrev called : Tree → Tree → Tree
  called bs ms = inlined_call d ss c Σ (typed_names bs) ms body k

  pub without_arguments : (bs ms : Tree) → None ≡ first_argument bs ms → inlined_body d ss c Σ 0 body k ≡ called bs ms
  unfolding inlined_call
  without_arguments (Node (Binder x T) a more) (Node h m rest) e = absurd (cc)
  without_arguments (Node (Binder x T) a more) Empty e = refl
  without_arguments bs ms e = refl

  pub with_argument : (bs ms : Tree) (a : Argument) → Some a ≡ first_argument bs ms → Node (Let (d.variable c.number a.name) a.of) a.term (inlined_call d ss c ((a.name, Own) ∷ Σ) (typed_names a.binders) a.terms body k) ≡ called bs ms
  unfolding inlined_call
  with_argument (Node (Binder x T) b more) (Node h m rest) a e =
      let A : Argument = record { name = x; of = T; term = m; binders = more; terms = rest } in
      let g : a ≡ A = cc in
      ap (λ (r : Argument). Node (Let (d.variable c.number r.name) r.of) r.term (inlined_call d ss c ((r.name, Own) ∷ Σ) (typed_names r.binders) r.terms body k)) g
  with_argument bs ms a e = absurd (cc)
