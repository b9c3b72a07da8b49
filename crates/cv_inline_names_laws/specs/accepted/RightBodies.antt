-- What the grammar of files has of bodies on the right: `new`, `let`, `if` and `find` around terms. Blanchet and Pointcheval, CRYPTO
-- 2006.
use Rattle.std.specs.Prelude.{ℕ, Bool, true, false, ◌&&◌, List, [], ◌∷◌}
use Rattle.cv_syntax_trees.specs.declared.head.Head.TheVariants.{Leaf, Read, Apply, Eq, And, Or, Not, Yes, No, Cons, Binder, Branch, New, Let, If, Find}
use Rattle.cv_syntax_trees.specs.Tree.{Tree, Empty, Node, first, second}

-- terms, and lists of terms
unfoldable mutual
  pub is_body_term : Tree → Bool
  is_body_term (Node (Leaf x) a b) = true
  is_body_term (Node (Read v) a b) = true
  is_body_term (Node (Apply f) a b) = are_body_terms a
  is_body_term (Node Eq a b) = is_body_term a && is_body_term b
  is_body_term (Node And a b) = is_body_term a && is_body_term b
  is_body_term (Node Or a b) = is_body_term a && is_body_term b
  is_body_term (Node Not a b) = is_body_term a
  is_body_term (Node Yes a b) = true
  is_body_term (Node No a b) = true
  is_body_term t = false

  pub are_body_terms : Tree → Bool
  are_body_terms Empty = true
  are_body_terms (Node Cons a b) = is_body_term a && are_body_terms b
  are_body_terms t = false

-- a `defined` list
unfoldable pub are_body_cells : Tree → Bool
are_body_cells Empty = true
are_body_cells (Node Cons (Node (Leaf x) a b) more) = are_body_cells more
are_body_cells (Node Cons (Node (Read v) a b) more) = are_body_cells more
are_body_cells t = false

-- bodies, and the branches of a `find`
unfoldable mutual
  pub is_right_body : Tree → Bool
  is_right_body (Node (New z T) a b) = is_right_body b
  is_right_body (Node (Let z T) a b) = is_body_term a && is_right_body b
  is_right_body (Node If a (Node Cons b (Node Cons c Empty))) = is_body_term a && (is_right_body b && is_right_body c)
  is_right_body (Node (Find l) a b) = are_right_branches a && is_right_body b
  is_right_body t = is_body_term t

  pub are_right_branches : Tree → Bool
  are_right_branches Empty = true
  are_right_branches (Node Cons (Node Branch (Node (Binder u n) x Empty) (Node Cons cells (Node Cons m body))) more) =
      are_body_cells cells && (is_body_term m && (is_right_body body && are_right_branches more))
  are_right_branches t = false

-- a right side of files: its key is one name, nothing is chosen for its functions, and their bodies are such bodies

abbrev pub is_one_name : Tree → Bool
is_one_name (Node (Binder k T) a Empty) = true
is_one_name t = false

abbrev pub is_empty : Tree → Bool
is_empty Empty = true
is_empty t = false

unfoldable pub are_right_functions : Tree → Bool
are_right_functions Empty = true
are_right_functions (Node h f more) = is_empty (first (first f)) && (is_right_body (second f) && are_right_functions more)

abbrev pub is_right_side : Tree → Bool
is_right_side g = is_one_name (first g) && are_right_functions (second g)

-- as many terms as names
abbrev pub are_as_many : List (ℕ × ℕ) → Tree → Bool
are_as_many [] t = true
are_as_many (x ∷ xs) Empty = false
are_as_many (x ∷ xs) (Node h m more) = are_as_many xs more
