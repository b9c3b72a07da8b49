-- The list of what has a number, as long as there is something.
use Rattle.std.proofs.Common.{◌≡◌, ◌+◌, ◌≤◌, ◌++◌, ◌∷◌, ℕ, List, [], Option, Some, None, ap, arith, inl, inr, sym, take, ◌∙◌}
use Rattle.std.specs.Prelude.{option_and_then, slice_get, unwrap_or}
use Rattle.std.proofs.lemmas.List.{take_all, take_more}
use Rattle.std.proofs.lemmas.Option.{get_or_from_slice_get, slice_get_within, slice_get_cases}
use Rattle.cv_syntax_trees.proofs.lists.Options.{some_none}

module _ {X : Type 0} where
  pub next : (o : Option (List X)) (k : ℕ) (x : X) → Some x ≡ option_and_then (λ xs. slice_get xs k) o → take (k + 1) (unwrap_or o []) ≡ take k (unwrap_or o []) ++ x ∷ []
  next None k x e = absurd (some_none x e)
  next (Some xs) k x e =
      take_more xs k x (slice_get_within xs k x (sym e))
      ∙ ap (λ y. take k xs ++ y ∷ []) (get_or_from_slice_get xs k x x (sym e))

  pub last : (o : Option (List X)) (k n : ℕ) → k ≤ n → None ≡ option_and_then (λ xs. slice_get xs k) o → take k (unwrap_or o []) ≡ take n (unwrap_or o [])
  last None k n h e = grind (take_all, arith)
  last (Some xs) k n h e =
      elim ((slice_get_cases xs k).1) [
        | inl (x, within, found, _) ↦ absurd (some_none x (sym found ∙ sym e))
        | inr (past, _) ↦ grind (take_all, arith)
      ]
