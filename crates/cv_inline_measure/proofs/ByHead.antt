-- What a right body adds, by the head of its node.
use Rattle.std.proofs.Common.{◌≡◌, ℕ, List, ◌∷◌, refl, ap, sym, ◌∙◌}
use Rattle.std.specs.Prelude.{flat_map}
use Rattle.cv_pool.specs.KindTree.{KindTree}
use Rattle.cv_syntax_trees.specs.declared.head.Head.{Head}
use Rattle.cv_syntax_trees.specs.declared.head.Head.TheVariants.{New, Let, If, Find}
use Rattle.cv_syntax_trees.specs.Tree.{Tree, Empty, Node, first_place, second_place}
use Rattle.cv_syntax.specs.PoolTrees.{tree_at}
use Rattle.cv_meaning.specs.contexts.Inlined.{Caller, Drawn, Own, Scope, in_game}
use Rattle.cv_inline_laws.specs.extents.Extents.{Extent, Measure, beside, extent, of_body, of_branches, of_find, of_result, under}
use Rattle.cv_inline_sites.specs.listing.Subtrees.{IsNodeAt}
use Rattle.cv_inline_sites.specs.declared.listing.subtree.Subtree.{Subtree}
use Rattle.cv_inline_sites.specs.declared.listing.subtree.Parent.{Parent}

module _ (μ : Measure) (d : Drawn) (ss : List Caller) (c : Caller) (Σ : Scope) where
  abbrev adds : ℕ → Tree → Extent
  adds p t = of_body μ d ss c Σ p t

  abbrev ends : Tree → Extent
  ends t = of_result μ (in_game d c Σ t)

  none_is : (p : ℕ) (t : Tree) → t ≡ Empty → adds p t ≡ ends t
  unfolding of_body
  none_is p t e = ap (adds p) e ∙ ap ends (sym e)

  other_is : (p : ℕ) (h : Head) (a b : Tree) → ((z T : ℕ) → h ≡ New z T → ⊥) → ((z T : ℕ) → h ≡ Let z T → ⊥) → (h ≡ If → ⊥) → ((l : ℕ) → h ≡ Find l → ⊥) → adds p (Node h a b) ≡ ends (Node h a b)
  unfolding of_body
  other_is p (New z T) a b n l i f = absurd (n z T refl)
  other_is p (Let z T) a b n l i f = absurd (l z T refl)
  other_is p If a b n l i f = absurd (i refl)
  other_is p (Find m) a b n l i f = absurd (f m refl)
  other_is p h a b n l i f = refl

  module _ (trees : List KindTree) where
    abbrev at : Subtree → Tree
    at s = tree_at trees s.root

    abbrev here : Subtree → Extent
    here s = adds s.place (at s)

    pub without_node : (s : Subtree) → at s ≡ Empty → ends (at s) ≡ here s
    without_node s e = sym (none_is s.place (at s) e)

    pub new_is : (s : Subtree) (n : Parent) (z T : ℕ) → IsNodeAt trees s n → n.head ≡ New z T → under μ 1 0 (of_body μ d ss c ((z, Own) ∷ Σ) n.second.place (at n.second)) ≡ here s
    unfolding of_body
    new_is s n z T i e =
        ap (λ p. under μ 1 0 (of_body μ d ss c ((z, Own) ∷ Σ) p (at n.second))) (i.second_place ∙ ap (λ h. second_place s.place h (at n.first)) e)
        ∙ sym (ap (adds s.place) (i.tree ∙ ap (λ h. Node h (at n.first) (at n.second)) e))

    pub let_is : (s : Subtree) (n : Parent) (z T : ℕ) → IsNodeAt trees s n → n.head ≡ Let z T → under μ 1 (extent μ (in_game d c Σ (at n.first))) (of_body μ d ss c ((z, Own) ∷ Σ) n.second.place (at n.second)) ≡ here s
    unfolding of_body
    let_is s n z T i e =
        ap (λ p. under μ 1 (extent μ (in_game d c Σ (at n.first))) (of_body μ d ss c ((z, Own) ∷ Σ) p (at n.second))) (i.second_place ∙ ap (λ h. second_place s.place h (at n.first)) e)
        ∙ sym (ap (adds s.place) (i.tree ∙ ap (λ h. Node h (at n.first) (at n.second)) e))

    pub find_is : (s : Subtree) (n : Parent) (l : ℕ) → IsNodeAt trees s n → n.head ≡ Find l →
        of_find μ (flat_map (λ o. of_branches μ d ss c Σ s.place o 0 n.first.place (at n.first)) ss) (adds n.second.place (at n.second)) ≡ here s
    unfolding of_body
    find_is s n l i e =
        (λ j. of_find μ (flat_map (λ o. of_branches μ d ss c Σ s.place o 0 ((i.first_place ∙ ap (first_place s.place) e) j) (at n.first)) ss) (adds ((i.second_place ∙ ap (λ h. second_place s.place h (at n.first)) e) j) (at n.second)))
        ∙ sym (ap (adds s.place) (i.tree ∙ ap (λ h. Node h (at n.first) (at n.second)) e))

    pub if_is : (s : Subtree) (n then other : Parent) → IsNodeAt trees s n → n.head ≡ If → IsNodeAt trees n.second then → IsNodeAt trees then.second other →
        under μ 1 (extent μ (in_game d c Σ (at n.first))) (beside μ (here then.first) (here other.first)) ≡ here s
    unfolding of_body
    if_is s n then other i e t o =
        (λ j. under μ 1 (extent μ (in_game d c Σ (at n.first))) (beside μ (adds ((t.first_place ∙ ap (λ p. first_place p then.head) list_place) j) (at then.first)) (adds ((o.first_place ∙ ap (λ p. first_place p other.head) (t.second_place ∙ ap (λ p. second_place p then.head (at then.first)) list_place)) j) (at other.first))))
        ∙ sym (ap (adds s.place) whole)
      where
        list_place : n.second.place ≡ second_place s.place If (at n.first)
        list_place = i.second_place ∙ ap (λ h. second_place s.place h (at n.first)) e

        whole : at s ≡ Node If (at n.first) (Node then.head (at then.first) (Node other.head (at other.first) (at other.second)))
        whole = i.tree ∙ ap (λ h. Node h (at n.first) (at n.second)) e ∙ ap (λ b. Node If (at n.first) b) (t.tree ∙ ap (λ b. Node then.head (at then.first) b) o.tree)

    pub if_without_bodies : (s : Subtree) (n : Parent) → IsNodeAt trees s n → n.head ≡ If → at n.second ≡ Empty → ends (at s) ≡ here s
    unfolding of_body
    if_without_bodies s n i e m = ap ends whole ∙ sym (ap (adds s.place) whole) where
      whole : at s ≡ Node If (at n.first) Empty
      whole = i.tree ∙ ap (λ h. Node h (at n.first) (at n.second)) e ∙ ap (λ b. Node If (at n.first) b) m

    pub if_with_one_body : (s : Subtree) (n then : Parent) → IsNodeAt trees s n → n.head ≡ If → IsNodeAt trees n.second then → at then.second ≡ Empty → ends (at s) ≡ here s
    unfolding of_body
    if_with_one_body s n then i e t m = ap ends whole ∙ sym (ap (adds s.place) whole) where
      whole : at s ≡ Node If (at n.first) (Node then.head (at then.first) Empty)
      whole = i.tree ∙ ap (λ h. Node h (at n.first) (at n.second)) e ∙ ap (λ b. Node If (at n.first) b) (t.tree ∙ ap (λ b. Node then.head (at then.first) b) m)

    pub result_is : (s : Subtree) (n : Parent) → IsNodeAt trees s n → ((z T : ℕ) → n.head ≡ New z T → ⊥) → ((z T : ℕ) → n.head ≡ Let z T → ⊥) → (n.head ≡ If → ⊥) → ((l : ℕ) → n.head ≡ Find l → ⊥) → ends (at s) ≡ here s
    result_is s n i new let_ if_ find = sym (ap (adds s.place) i.tree ∙ (other_is s.place n.head (at n.first) (at n.second) new let_ if_ find ∙ ap ends (sym i.tree)))
