-- Cells at the indices of replications, compared part by part.
use Rattle.std.proofs.Common.{◌≡◌, ◌==◌, ◌+◌, ◌<◌, ◌≤◌, drop, get_or, length, ℕ, Bool, true, false, ◌&&◌, List, ◌∷◌, refl, ap, ap₂, sym, ◌∙◌}
use Rattle.std.proofs.lemmas.List.{at_drop_all, at_drop_more}
use Rattle.cv_syntax_trees.proofs.lists.Tests.{and_true, equals_comm}
use Rattle.cv_syntax_trees.specs.declared.head.Head.{Head}
use Rattle.cv_syntax_trees.specs.declared.head.Head.TheVariants.{Cons, Leaf, Read}
use Rattle.cv_syntax_trees.specs.Children.{is_empty, is_leaf}
use Rattle.cv_syntax_trees.specs.Head.{same_head}
use Rattle.cv_syntax_trees.specs.Tree.{Tree, Empty, Node, lone, same_tree}
use Rattle.cv_syntax.proofs.Trees.{tree_of_NoTree}
use Rattle.cv_scope_rules.specs.Context.{index_terms}

pub empty_form : (t : Tree) → same_tree t Empty ≡ is_empty t
unfolding same_tree
empty_form Empty = refl
empty_form (Node h a b) = refl

pub leaf_form : (x : ℕ) (t : Tree) → is_leaf x t ≡ same_tree t (lone (Leaf x))
unfolding same_tree
leaf_form x Empty = refl
leaf_form x (Node (Leaf y) a b) =
    ap₂ (λ p q. p && q) (equals_comm x y ∙ sym (and_true (y == x))) (ap₂ (λ p q. p && q) (sym (empty_form a)) (sym (empty_form b)))
leaf_form x (Node h a b) = refl

pub ruleset indices = (tree_of_NoTree, leaf_form)

-- a list of indices, node by node

row_missing : (r : ℕ × ℕ) (rs : List (ℕ × ℕ)) (t : Tree) → t ≡ Empty → same_tree t (index_terms (r ∷ rs)) ≡ false
unfolding same_tree
row_missing r rs t e = ap (λ u. same_tree u (index_terms (r ∷ rs))) e

row_node : (r : ℕ × ℕ) (rs : List (ℕ × ℕ)) (t : Tree) (h : Head) (a b : Tree) → t ≡ Node h a b → (v : Bool) → v ≡ (same_head h Cons && same_tree a (lone (Leaf r.0))) → same_tree t (index_terms (r ∷ rs)) ≡ (v && same_tree b (index_terms rs))
unfolding same_tree
row_node r rs t h a b e v f =
    ap (λ u. same_tree u (index_terms (r ∷ rs))) e
    ∙ (and_nested (same_head h Cons) (same_tree a (lone (Leaf r.0))) (same_tree b (index_terms rs)) ∙ ap (λ w. w && same_tree b (index_terms rs)) (sym f))
  where
    and_nested : (p q s : Bool) → (p && (q && s)) ≡ ((p && q) && s)
    and_nested true q s = refl
    and_nested false q s = refl

module _ (rs : List (ℕ × ℕ)) (k : ℕ) (t : Tree) where
  pub rows_done : length rs ≤ k → is_empty t ≡ same_tree t (index_terms (drop k rs))
  rows_done l = sym (at_drop_all (λ l. same_tree t (index_terms l)) rs k l ∙ empty_form t)

  pub rows_missing : k < length rs → t ≡ Empty → false ≡ same_tree t (index_terms (drop k rs))
  rows_missing l e = sym (at_drop_more (λ l. same_tree t (index_terms l)) rs k (0, 0) l ∙ row_missing (get_or rs k (0, 0)) (drop (k + 1) rs) t e)

  module _ (d : ℕ × ℕ) (l : k < length rs) (h : Head) (a b : Tree) (e : t ≡ Node h a b) (v : Bool) (f : v ≡ (same_head h Cons && same_tree a (lone (Leaf (get_or rs k d).0)))) where
    rows_next : same_tree t (index_terms (drop k rs)) ≡ (v && same_tree b (index_terms (drop (k + 1) rs)))
    rows_next = at_drop_more (λ l. same_tree t (index_terms l)) rs k d l ∙ row_node (get_or rs k d) (drop (k + 1) rs) t h a b e v f

    pub rows_wrong : v ≡ false → false ≡ same_tree t (index_terms (drop k rs))
    rows_wrong n = sym (rows_next ∙ ap (λ w. w && same_tree b (index_terms (drop (k + 1) rs))) n)

    pub rows_right : v ≡ true → same_tree b (index_terms (drop (k + 1) rs)) ≡ same_tree t (index_terms (drop k rs))
    rows_right n = sym (rows_next ∙ ap (λ w. w && same_tree b (index_terms (drop (k + 1) rs))) n)

pub ruleset rows = (tree_of_NoTree)

-- a read with indices

pub array_node : (x : ℕ) (rs : List (ℕ × ℕ)) (t : Tree) (h : Head) (a b : Tree) → t ≡ Node h a b → same_tree t (Node (Read x) (index_terms rs) Empty) ≡ (same_head h (Read x) && (same_tree a (index_terms rs) && is_empty b))
unfolding same_tree
array_node x rs t h a b e =
    ap (λ u. same_tree u (Node (Read x) (index_terms rs) Empty)) e
    ∙ ap (λ v. same_head h (Read x) && (same_tree a (index_terms rs) && v)) (empty_form b)

pub array_empty : (x : ℕ) (rs : List (ℕ × ℕ)) (t : Tree) → t ≡ Empty → false ≡ same_tree t (Node (Read x) (index_terms rs) Empty)
unfolding same_tree
array_empty x rs t e = sym (ap (λ u. same_tree u (Node (Read x) (index_terms rs) Empty)) e)

pub ruleset arrays = (tree_of_NoTree)

pub ruleset cells = (tree_of_NoTree, leaf_form)
