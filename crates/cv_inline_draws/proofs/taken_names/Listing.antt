-- The names of a tree, node by node.
use Rattle.std.proofs.Common.{◌≡◌, ℕ, List, [], ◌++◌, refl, ap, sym, ◌∙◌}
use Rattle.std.proofs.lemmas.List.{append-nil, append_assoc}
use Rattle.cv_syntax_trees.specs.declared.head.Head.{Head}
use Rattle.cv_syntax_trees.specs.Tree.{Tree, Empty, Node}
use Rattle.cv_inline_draws.specs.taken_names.Taken.{names_at, names_in}

names_in_Node : (h : Head) (a b : Tree) → names_in (Node h a b) ≡ names_at h ++ (names_in a ++ names_in b)
unfolding names_in
names_in_Node h a b = refl

names_in_Empty : names_in Empty ≡ []
unfolding names_in
names_in_Empty = refl

-- one more node: its name, and the names below it
pub nodes_more : (before one two all : List ℕ) (h : Head) (t a b : Tree) → t ≡ Node h a b → one ≡ before ++ names_at h → two ≡ one ++ names_in a → before ++ names_in t ≡ all → two ++ names_in b ≡ all
nodes_more before one two all h t a b e f g so_far =
    ap (λ xs. xs ++ names_in b) (g ∙ ap (λ xs. xs ++ names_in a) f)
    ∙ (append_assoc (before ++ names_at h) (names_in a) (names_in b)
    ∙ (append_assoc before (names_at h) (names_in a ++ names_in b) ∙ (ap (λ xs. before ++ xs) (sym (ap names_in e ∙ names_in_Node h a b)) ∙ so_far)))

pub nodes_end : (before all : List ℕ) (t : Tree) → t ≡ Empty → before ++ names_in t ≡ all → before ≡ all
nodes_end before all t e so_far = sym (append-nil before) ∙ (ap (λ xs. before ++ xs) (sym (ap names_in e ∙ names_in_Empty)) ∙ so_far)
