-- What is true of truth values. This profile's own.
use Rattle.std.specs.Prelude.{Bool, false, ◌&&◌, ◌||◌}
use Rattle.cv_syntax_trees.specs.declared.head.Head.TheVariants.{Eq, And, Or, Not, Yes, No}
use Rattle.cv_syntax_trees.specs.Tree.{Tree, Node, lone, same_tree}

abbrev pub yes : Tree
yes = lone Yes

abbrev pub no : Tree
no = lone No

abbrev pub are_sides : (l r : Tree) → (left right : Tree) → Bool
are_sides l r left right = same_tree l left && same_tree r right

-- (A = true) = A; (M = M) = true; (M = N) = (N = M)
abbrev pub is_truth_of_equality : (m n r : Tree) → Bool
is_truth_of_equality m n r = are_sides n r yes m || (are_sides n r m yes || same_tree r (Node Eq n m))

-- (A && true) = A; (true && A) = A; (A && false) = false; (false && A) = false
abbrev pub is_truth_of_and : (m n r : Tree) → Bool
is_truth_of_and m n r = are_sides n r yes m || (are_sides m r yes n || (are_sides n r no no || are_sides m r no no))

-- (A || true) = true; (true || A) = true; (A || false) = A; (false || A) = A
abbrev pub is_truth_of_or : (m n r : Tree) → Bool
is_truth_of_or m n r = are_sides n r yes yes || (are_sides m r yes yes || (are_sides n r no m || are_sides m r no n))

-- not(not(A)) = A
abbrev pub is_double : (m r : Tree) → Bool
is_double (Node Not a b) r = same_tree r a
is_double m r = false

-- not(A) = (A = false); not(true) = false; not(false) = true; not(not(A)) = A
abbrev pub is_truth_of_not : (m r : Tree) → Bool
is_truth_of_not m r = same_tree r (Node Eq m no) || (are_sides m r yes no || (are_sides m r no yes || is_double m r))

abbrev pub is_truth_of_sides : (l r : Tree) → Bool
is_truth_of_sides (Node Eq m n) r = is_truth_of_equality m n r
is_truth_of_sides (Node And m n) r = is_truth_of_and m n r
is_truth_of_sides (Node Or m n) r = is_truth_of_or m n r
is_truth_of_sides (Node Not m n) r = is_truth_of_not m r
is_truth_of_sides l r = false

-- A = (A = true); and those above
abbrev pub is_truth_of_equation : Tree → Bool
is_truth_of_equation (Node Eq l r) = same_tree r (Node Eq l yes) || is_truth_of_sides l r
is_truth_of_equation t = false

-- true; and those equations
abbrev pub is_truth : Tree → Bool
is_truth t = same_tree t yes || is_truth_of_equation t
