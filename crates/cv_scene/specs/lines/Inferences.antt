-- What follows from lines that are cited, by their terms alone. This profile's own.
use Rattle.std.specs.Prelude.{ℕ, ◌^◌, Bool, true, false, ◌&&◌, nat_lt, if◌then◌else◌, List, [], ◌∷◌, Option, Some}
use Rattle.cv_syntax_trees.specs.declared.head.Head.TheVariants.{Eq, And, Not, Number}
use Rattle.cv_syntax_trees.specs.Tree.{Tree, Empty, Node, same_tree}
use Rattle.cv_scene.specs.lines.Lines.{Statement, Holds, IsDefined}
use Rattle.cv_scene.specs.lines.Truths.{no}

-- the statements that may be cited, by the numbers of their lines
abbrev pub Visible : Type 0
Visible = ℕ → Option Statement

-- the number of a line, of a fact or of an equation: they count from 1, and there are fewer than 2 ^ 32
abbrev pub number_of : Tree → ℕ
number_of (Node (Number n) a b) = if nat_lt n (2 ^ 32) then n else 0
number_of t = 0

-- the term, or the cell, of the line that is cited; no tree where there is none

abbrev pub term_in : Option Statement → Tree
term_in (Some (Holds t)) = t
term_in s = Empty

abbrev pub cell_in : Option Statement → Tree
cell_in (Some (IsDefined c)) = c
cell_in s = Empty

abbrev pub cited_term : Visible → (line : Tree) → Tree
cited_term v l = term_in (v (number_of l))

abbrev pub cited_cell : Visible → (line : Tree) → Tree
cited_cell v l = cell_in (v (number_of l))

-- equality

abbrev pub is_reflexive : Tree → Bool
is_reflexive (Node Eq m n) = same_tree m n
is_reflexive t = false

abbrev pub is_symmetric : (line term : Tree) → Bool
is_symmetric (Node Eq x y) (Node Eq m n) = same_tree m y && same_tree n x
is_symmetric l t = false

abbrev pub is_transitive : (line next term : Tree) → Bool
is_transitive (Node Eq w x) (Node Eq y z) (Node Eq m n) = same_tree x y && (same_tree m w && same_tree n z)
is_transitive l k t = false

-- each line says that two of the arguments are equal
abbrev pub are_equal_by : Visible → (lines : List Tree) → (ms ns : List Tree) → Bool
are_equal_by v [] [] [] = true
are_equal_by v (l ∷ ls) (m ∷ ms) (n ∷ ns) = same_tree (cited_term v l) (Node Eq m n) && are_equal_by v ls ms ns
are_equal_by v ls ms ns = false

-- the right-nested conjunction of the equations between two lists of terms
abbrev pub equations_of : (ms ns : List Tree) → Tree
equations_of (m ∷ []) (n ∷ []) = Node Eq m n
equations_of (m ∷ ms) (n ∷ ns) = Node And (Node Eq m n) (equations_of ms ns)
equations_of ms ns = Empty

-- connectives

abbrev pub is_replaced_by : (line next term : Tree) → Bool
is_replaced_by (Node h a b) (Node Eq m n) t = same_tree (Node h a b) m && same_tree t n
is_replaced_by l k t = false

abbrev pub is_both : (line next term : Tree) → Bool
is_both l k (Node And m n) = same_tree m l && same_tree n k
is_both l k t = false

abbrev pub is_left : (line term : Tree) → Bool
is_left (Node And m n) t = same_tree t m
is_left l t = false

abbrev pub is_right_side : (line term : Tree) → Bool
is_right_side (Node And m n) t = same_tree t n
is_right_side l t = false

abbrev pub is_refuted : (line next term : Tree) → Bool
is_refuted (Node h a b) (Node Not m c) t = same_tree (Node h a b) m && same_tree t no
is_refuted l k t = false
