-- Labels that are drawn for a game are none of its finds.
use Rattle.std.proofs.Common.{◌≡◌, ℕ, Bool, true, false, ◌||◌, ◌==◌, List, [], ◌∷◌, length, refl, sym, ap, ap₂, subst, ◌∙◌, eqb-true}
use Rattle.std.proofs.lemmas.Bool.{both_ways}
use Rattle.std.proofs.lemmas.List.Folds.{list_any-append}
use Rattle.std.specs.List.{AllByRecursion, IsDistinct, list_any}
use Rattle.cv_syntax_trees.specs.declared.head.Head.TheVariants.{Find}
use Rattle.cv_syntax_trees.specs.Tree.{Tree, Empty, Node}
use Rattle.cv_scene.specs.Reductions.{Reduction}
use Rattle.cv_inline.specs.Draws.{labels_in}
use Rattle.cv_inline_laws.proofs.draws.Fresh.{as_many_labels, labels_differ, labels_free}
use Rattle.cv_context_runs.specs.visits.Fine.{has_label}
use Rattle.cv_match_laws.specs.answers.Drawn.{AreDrawnFor, finds}

label_listed : (l : ℕ) (t : Tree) → has_label l t ≡ list_any (λ k. k == l) (labels_in t)
unfolding has_label labels_in
label_listed l Empty = refl
label_listed l (Node (Find m) a b) =
    ap (λ c. (m == l) || c)
    (ap₂ ◌||◌ (label_listed l a) (label_listed l b) ∙ sym (list_any-append (λ k. k == l) (labels_in a) (labels_in b)))
label_listed l (Node h a b) = ap₂ ◌||◌ (label_listed l a) (label_listed l b) ∙ sym (list_any-append (λ k. k == l) (labels_in a) (labels_in b))

none_taken : (taken ls : List ℕ) → AllByRecursion (λ l. list_any (λ t. t == l) taken ≡ false) ls → (l : ℕ) → list_any (λ t. t == l) taken ≡ true → list_any (λ k. k == l) ls ≡ false
none_taken taken [] f l e = refl
none_taken taken (k ∷ ls) f l e = go (k == l) refl (none_taken taken ls f.1 l e)
  where
    go : (b : Bool) → (k == l) ≡ b → list_any (λ k. k == l) ls ≡ false → (b || list_any (λ k. k == l) ls) ≡ false
    go true i h = absurd (both_ways _ f.0 (ap (λ m. list_any (λ t. t == m) taken) (eqb-true k l i) ∙ e))
    go false i h = h

module _ (r : Reduction) (names labels : List ℕ) (d : AreDrawnFor r names labels) where
  pub many_labels : length labels ≡ length (finds r)
  many_labels = ap length d.least ∙ as_many_labels (labels_in r.scene.game) 1 (finds r)

  pub labels_apart : IsDistinct ◌==◌ labels
  labels_apart = subst (IsDistinct ◌==◌) (sym d.least) (labels_differ (labels_in r.scene.game) 1 (finds r))

  pub labels_new : (l : ℕ) → has_label l r.scene.game ≡ true → list_any (λ k. k == l) labels ≡ false
  labels_new l e =
      ap (list_any (λ k. k == l)) d.least
      ∙ none_taken (labels_in r.scene.game) _ (labels_free (labels_in r.scene.game) 1 (finds r)) l (sym (label_listed l r.scene.game) ∙ e)
