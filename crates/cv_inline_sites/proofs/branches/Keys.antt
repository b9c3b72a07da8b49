-- Equations between keys, one by one; and the indices of a branch by name.
use Rattle.std.proofs.Common.{◌≡◌, ℕ, suc, List, [], ◌∷◌, refl, ap, ap₂, subst, ◌∙◌}
use Rattle.cv_syntax_trees.specs.declared.head.Head.{Head}
use Rattle.cv_syntax_trees.specs.declared.head.Head.TheVariants.{And, Cons, Eq}
use Rattle.cv_syntax_trees.specs.Tree.{Tree, Empty, Node}
use Rattle.cv_meaning.specs.contexts.Inlined.{all_equal, branch_indices, index_moves, moved, read_at}
use Rattle.cv_inline.specs.terms.Stacks.{names_from}
use Rattle.cv_inline_sites.specs.branches.Moves.{IsList, binders_by, moves_by}

pub equal_none : (ms : List (ℕ × Tree)) (t u m : Tree) → t ≡ Empty → all_equal (moved ms t) u m ≡ m
unfolding all_equal moved
equal_none ms t u m e = ap (λ l. all_equal (moved ms l) u m) e

pub equal_end : (ms : List (ℕ × Tree)) (t u m : Tree) → IsList t → u ≡ Empty → all_equal (moved ms t) u m ≡ m
unfolding all_equal moved
equal_end ms t u m l e = ap (λ r. all_equal (moved ms t) r m) e ∙ ends (moved ms t) where
  ends : (s : Tree) → all_equal s Empty m ≡ m
  ends Empty = refl
  ends (Node h a b) = refl

pub equal_keys : (ms : List (ℕ × Tree)) (t u m : Tree) (h k : Head) (a b c d : Tree) → IsList t → t ≡ Node h a b → u ≡ Node k c d → all_equal (moved ms t) u m ≡ Node And (Node Eq (moved ms a) c) (all_equal (moved ms b) d m)
unfolding all_equal moved
equal_keys ms t u m h k a b c d l e f = ap₂ (λ x y. all_equal (moved ms x) y m) e f ∙ listed h (subst IsList e l) where
  listed : (h : Head) → IsList (Node h a b) → all_equal (moved ms (Node h a b)) (Node k c d) m ≡ Node And (Node Eq (moved ms a) c) (all_equal (moved ms b) d m)
  listed Cons i = refl
  listed h i = absurd i

pub rest_is_list : (t : Tree) (h : Head) (a b : Tree) → IsList t → t ≡ Node h a b → IsList b
rest_is_list t h a b l e = listed h (subst IsList e l) where
  listed : (h : Head) → IsList (Node h a b) → IsList b
  listed Cons i = i
  listed h i = absurd i

pub moves_same : (here : Tree) (name : ℕ → ℕ) (k : ℕ) (rs : List (ℕ × ℕ)) → moves_by here rs (names_from name k rs) ≡ index_moves here name k rs
moves_same here name k [] = refl
moves_same here name k (r ∷ rs) = ap (λ l. (r.0, read_at (name k) here) ∷ l) (moves_same here name (suc k) rs)

pub binders_same : (name : ℕ → ℕ) (k : ℕ) (rs : List (ℕ × ℕ)) → binders_by rs (names_from name k rs) ≡ branch_indices name k rs
binders_same name k [] = refl
binders_same name k (r ∷ rs) = ap (λ l. (name k, r.1) ∷ l) (binders_same name (suc k) rs)
