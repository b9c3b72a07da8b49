-- A right body by the head of its node.
use Rattle.std.proofs.Common.{◌≡◌, ℕ, List, ◌∷◌, refl, ap, sym, ◌∙◌}
use Rattle.cv_pool.specs.KindTree.{KindTree}
use Rattle.cv_syntax_trees.specs.declared.head.Head.{Head}
use Rattle.cv_syntax_trees.specs.declared.head.Head.TheVariants.{New, Let, If, Find, Cons}
use Rattle.cv_syntax_trees.specs.Tree.{Tree, Empty, Node, first_place, second_place}
use Rattle.cv_syntax.specs.PoolTrees.{tree_at}
use Rattle.cv_meaning.specs.contexts.Inlined.{Caller, Drawn, Own, Scope, expanded, find_or_else, in_game, inlined_body, inlined_branch}
use Rattle.cv_inline_sites.specs.listing.Subtrees.{IsNodeAt}
use Rattle.cv_inline_sites.specs.declared.listing.subtree.Subtree.{Subtree}
use Rattle.cv_inline_sites.specs.declared.listing.subtree.Parent.{Parent}

module _ (d : Drawn) (ss : List Caller) (c : Caller) (Σ : Scope) (k : Tree → Tree) where
  abbrev inlined : ℕ → Tree → Tree
  inlined p t = inlined_body d ss c Σ p t k

  none_is : (p : ℕ) (t : Tree) → t ≡ Empty → inlined p t ≡ k (in_game d c Σ t)
  unfolding inlined_body inlined_branch
  none_is p t e = ap (inlined p) e ∙ ap (λ m. k (in_game d c Σ m)) (sym e)

  other_is : (p : ℕ) (h : Head) (a b : Tree) → ((z T : ℕ) → h ≡ New z T → ⊥) → ((z T : ℕ) → h ≡ Let z T → ⊥) → (h ≡ If → ⊥) → ((l : ℕ) → h ≡ Find l → ⊥) → inlined p (Node h a b) ≡ k (in_game d c Σ (Node h a b))
  unfolding inlined_body inlined_branch
  other_is p (New z T) a b n l i f = absurd (n z T refl)
  other_is p (Let z T) a b n l i f = absurd (l z T refl)
  other_is p If a b n l i f = absurd (i refl)
  other_is p (Find m) a b n l i f = absurd (f m refl)
  other_is p h a b n l i f = refl

  module _ (trees : List KindTree) where
    abbrev at : Subtree → Tree
    at s = tree_at trees s.root

    abbrev here : Subtree → Tree
    here s = inlined s.place (at s)

    pub without_node : (s : Subtree) → at s ≡ Empty → k (in_game d c Σ (at s)) ≡ here s
    without_node s e = sym (none_is s.place (at s) e)

    pub new_is : (s : Subtree) (n : Parent) (z T : ℕ) → IsNodeAt trees s n → n.head ≡ New z T → Node (New (d.variable c.number z) T) Empty (inlined_body d ss c ((z, Own) ∷ Σ) n.second.place (at n.second) k) ≡ here s
    unfolding inlined_body inlined_branch
    new_is s n z T i e =
        ap (λ p. Node (New (d.variable c.number z) T) Empty (inlined_body d ss c ((z, Own) ∷ Σ) p (at n.second) k)) (i.second_place ∙ ap (λ h. second_place s.place h (at n.first)) e)
        ∙ sym (ap (inlined s.place) (i.tree ∙ ap (λ h. Node h (at n.first) (at n.second)) e))

    pub let_is : (s : Subtree) (n : Parent) (z T : ℕ) → IsNodeAt trees s n → n.head ≡ Let z T → Node (Let (d.variable c.number z) T) (in_game d c Σ (at n.first)) (inlined_body d ss c ((z, Own) ∷ Σ) n.second.place (at n.second) k) ≡ here s
    unfolding inlined_body inlined_branch
    let_is s n z T i e =
        ap (λ p. Node (Let (d.variable c.number z) T) (in_game d c Σ (at n.first)) (inlined_body d ss c ((z, Own) ∷ Σ) p (at n.second) k)) (i.second_place ∙ ap (λ h. second_place s.place h (at n.first)) e)
        ∙ sym (ap (inlined s.place) (i.tree ∙ ap (λ h. Node h (at n.first) (at n.second)) e))

    pub find_is : (s : Subtree) (n : Parent) (l : ℕ) → IsNodeAt trees s n → n.head ≡ Find l →
        find_or_else (d.label c.number s.place) (expanded d c Σ (d.index c.number s.place) (λ j Τ. inlined_branch d ss c Τ n.first.place (at n.first) k j) ss (at n.first)) (inlined n.second.place (at n.second)) ≡ here s
    unfolding inlined_body inlined_branch
    find_is s n l i e =
        (λ j. find_or_else (d.label c.number s.place) (expanded d c Σ (d.index c.number s.place) (λ m Τ. inlined_branch d ss c Τ ((i.first_place ∙ ap (first_place s.place) e) j) (at n.first) k m) ss (at n.first)) (inlined ((i.second_place ∙ ap (λ h. second_place s.place h (at n.first)) e) j) (at n.second)))
        ∙ sym (ap (inlined s.place) (i.tree ∙ ap (λ h. Node h (at n.first) (at n.second)) e))

    pub if_is : (s : Subtree) (n then other : Parent) → IsNodeAt trees s n → n.head ≡ If → IsNodeAt trees n.second then → IsNodeAt trees then.second other →
        Node If (in_game d c Σ (at n.first)) (Node Cons (here then.first) (Node Cons (here other.first) Empty)) ≡ here s
    unfolding inlined_body inlined_branch
    if_is s n then other i e t o =
        (λ j. Node If (in_game d c Σ (at n.first)) (Node Cons (inlined ((t.first_place ∙ ap (λ p. first_place p then.head) list_place) j) (at then.first)) (Node Cons (inlined ((o.first_place ∙ ap (λ p. first_place p other.head) (t.second_place ∙ ap (λ p. second_place p then.head (at then.first)) list_place)) j) (at other.first)) Empty)))
        ∙ sym (ap (inlined s.place) whole)
      where
        list_place : n.second.place ≡ second_place s.place If (at n.first)
        list_place = i.second_place ∙ ap (λ h. second_place s.place h (at n.first)) e

        whole : at s ≡ Node If (at n.first) (Node then.head (at then.first) (Node other.head (at other.first) (at other.second)))
        whole = i.tree ∙ ap (λ h. Node h (at n.first) (at n.second)) e ∙ ap (λ b. Node If (at n.first) b) (t.tree ∙ ap (λ b. Node then.head (at then.first) b) o.tree)

    pub if_without_bodies : (s : Subtree) (n : Parent) → IsNodeAt trees s n → n.head ≡ If → at n.second ≡ Empty → k (in_game d c Σ (at s)) ≡ here s
    unfolding inlined_body inlined_branch
    if_without_bodies s n i e m = ap (λ t. k (in_game d c Σ t)) whole ∙ sym (ap (inlined s.place) whole) where
      whole : at s ≡ Node If (at n.first) Empty
      whole = i.tree ∙ ap (λ h. Node h (at n.first) (at n.second)) e ∙ ap (λ b. Node If (at n.first) b) m

    pub if_with_one_body : (s : Subtree) (n then : Parent) → IsNodeAt trees s n → n.head ≡ If → IsNodeAt trees n.second then → at then.second ≡ Empty → k (in_game d c Σ (at s)) ≡ here s
    unfolding inlined_body inlined_branch
    if_with_one_body s n then i e t m = ap (λ t. k (in_game d c Σ t)) whole ∙ sym (ap (inlined s.place) whole) where
      whole : at s ≡ Node If (at n.first) (Node then.head (at then.first) Empty)
      whole = i.tree ∙ ap (λ h. Node h (at n.first) (at n.second)) e ∙ ap (λ b. Node If (at n.first) b) (t.tree ∙ ap (λ b. Node then.head (at then.first) b) m)

    pub result_is : (s : Subtree) (n : Parent) → IsNodeAt trees s n → ((z T : ℕ) → n.head ≡ New z T → ⊥) → ((z T : ℕ) → n.head ≡ Let z T → ⊥) → (n.head ≡ If → ⊥) → ((l : ℕ) → n.head ≡ Find l → ⊥) → k (in_game d c Σ (at s)) ≡ here s
    result_is s n i new let_ if_ find = sym (ap (inlined s.place) i.tree ∙ (other_is s.place n.head (at n.first) (at n.second) new let_ if_ find ∙ ap (λ t. k (in_game d c Σ t)) (sym i.tree)))
