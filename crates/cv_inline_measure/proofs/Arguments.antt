-- What a call adds, by its first argument.
use Rattle.std.proofs.Common.{◌≡◌, ◌≤◌, List, ◌∷◌, Some, None, refl, ap, arith}
use Rattle.cv_syntax_trees.specs.declared.head.Head.TheVariants.{Binder}
use Rattle.cv_syntax_trees.specs.Tree.{Tree, Empty, Node, second, size}
use Rattle.cv_meaning.specs.Correspondences.{typed_names}
use Rattle.cv_meaning.specs.contexts.Inlined.{Caller, Drawn, Own, Scope}
use Rattle.cv_inline_laws.specs.extents.Extents.{Extent, Measure, extent, of_body, of_call, under}
use Rattle.cv_inline_sites.specs.Calls.{Argument, first_argument}

module _ (μ : Measure) (d : Drawn) (ss : List Caller) (c : Caller) (Σ : Scope) (body : Tree) where
  abbrev called : Tree → Tree → Extent
  called bs ms = of_call μ d ss c Σ (typed_names bs) ms body

  pub without_arguments : (bs ms : Tree) → None ≡ first_argument bs ms → of_body μ d ss c Σ 0 body ≡ called bs ms
  unfolding of_call
  without_arguments (Node (Binder x T) a more) (Node h m rest) e = absurd (cc)
  without_arguments (Node (Binder x T) a more) Empty e = refl
  without_arguments bs ms e = refl

  pub with_argument : (bs ms : Tree) (a : Argument) → Some a ≡ first_argument bs ms → under μ 1 (extent μ a.term) (of_call μ d ss c ((a.name, Own) ∷ Σ) (typed_names a.binders) a.terms body) ≡ called bs ms
  unfolding of_call
  with_argument (Node (Binder x T) b more) (Node h m rest) a e =
      let A : Argument = record { name = x; of = T; term = m; binders = more; terms = rest } in
      let g : a ≡ A = cc in
      ap (λ (r : Argument). under μ 1 (extent μ r.term) (of_call μ d ss c ((r.name, Own) ∷ Σ) (typed_names r.binders) r.terms body)) g
  with_argument bs ms a e = absurd (cc)

pub second_small : (t : Tree) → size (second t) ≤ size t
unfolding size
second_small Empty = omega arith
second_small (Node h a b) = omega arith
