-- Definitions of a tree between two places are those of the trees that stand there.
use Rattle.std.proofs.Common.{◌≡◌, ℕ, ◌+◌, ◌<◌, ◌≤◌, Bool, true, false, ◌&&◌, ◌||◌, not, nat_lt, List, [], ◌∷◌, ◌++◌, map, ◌⊎◌, inl, inr, refl, ap, ap₂, ◌∙◌, arith, le-ltb, lt-ltb}
use Rattle.std.specs.Prelude.{◌==◌}
use Rattle.std.proofs.lemmas.List.Folds.{list_any-append}
use Rattle.cv_syntax_trees.specs.declared.head.Head.{Head}
use Rattle.cv_syntax_trees.specs.declared.head.Head.TheVariants.{Binder, Branch, Call, In, Key, Let, New}
use Rattle.cv_syntax_trees.specs.Head.{weight}
use Rattle.cv_syntax_trees.specs.Tree.{Tree, Empty, Node, bound_names, second, size}
use Rattle.cv_scope_rules.specs.Made.{is_bound, made_by}
use Rattle.cv_scope_rules.specs.Sites.{Variable}
use Rattle.cv_scene.specs.Late.{is_defined_in}
use Rattle.cv_settling_lateness.specs.Defining.{defined_at, definition, definitions, has_within, is_within}

-- the place is before the first one, or isn't before the second
abbrev IsApart : (low high p : ℕ) → Type 0
IsApart low high p = (p < low) ⊎ (high ≤ p)

and_false : (b : Bool) → (b && false) ≡ false
and_false true = refl
and_false false = refl

module _ (x low high : ℕ) where
  -- at one place

  apart : (p y : ℕ) → IsApart low high p → is_within x low high (definition p y) ≡ false
  apart p y (inl l) = ap (λ b. (x == y) && (not b && nat_lt p high)) (lt-ltb p low l) ∙ and_false (x == y)
  apart p y (inr l) = ap (λ b. (x == y) && (not (nat_lt p low) && b)) (le-ltb p high l) ∙ (ap (λ b. (x == y) && b) (and_false (not (nat_lt p low))) ∙ and_false (x == y))

  and_true : (b : Bool) → (b && true) ≡ b
  and_true true = refl
  and_true false = refl

  inside : (p y : ℕ) → low ≤ p → p < high → is_within x low high (definition p y) ≡ (x == y)
  inside p y l m = ap₂ (λ b c. (x == y) && (not b && c)) (le-ltb p low l) (lt-ltb p high m) ∙ and_true (x == y)

  all_apart : (p : ℕ) → IsApart low high p → (ys : List ℕ) → has_within x low high (map (definition p) ys) ≡ false
  all_apart p a [] = refl
  all_apart p a (y ∷ ys) = ap₂ (λ b c. b || c) (apart p y a) (all_apart p a ys)

  or_false : (b : Bool) → (b || false) ≡ b
  or_false true = refl
  or_false false = refl

  all_inside : (p : ℕ) → low ≤ p → p < high → (t : Tree) → has_within x low high (map (definition p) (bound_names t)) ≡ is_bound t x
  unfolding is_bound
  all_inside p l m Empty = refl
  all_inside p l m (Node (Binder y T) a b) = ap₂ (λ c d. c || d) (inside p y l m) (all_inside p l m b)
  all_inside p l m (Node h a b) = refl

  -- at a node

  own_apart : (p : ℕ) (h : Head) (a : Tree) → IsApart low high p → has_within x low high (defined_at p h a) ≡ false
  own_apart p (New y T) a s = all_apart p s (y ∷ [])
  own_apart p (Let y T) a s = all_apart p s (y ∷ [])
  own_apart p (Key y) a s = all_apart p s (y ∷ [])
  own_apart p (Call y l) a s = all_apart p s (y ∷ [])
  own_apart p (In c) a s = all_apart p s (bound_names (second a))
  own_apart p Branch a s = all_apart p s (bound_names a)
  own_apart p h a s = refl

  -- what defines something is a syntax node, which takes its place
  own_before : (p : ℕ) (h : Head) (a : Tree) → p + weight h ≤ low → has_within x low high (defined_at p h a) ≡ false
  own_before p (New y T) a l = all_apart p (inl (omega arith)) (y ∷ [])
  own_before p (Let y T) a l = all_apart p (inl (omega arith)) (y ∷ [])
  own_before p (Key y) a l = all_apart p (inl (omega arith)) (y ∷ [])
  own_before p (Call y k) a l = all_apart p (inl (omega arith)) (y ∷ [])
  own_before p (In c) a l = all_apart p (inl (omega arith)) (bound_names (second a))
  own_before p Branch a l = all_apart p (inl (omega arith)) (bound_names a)
  own_before p h a l = refl

  one : (p y : ℕ) → low ≤ p → p < high → (is_within x low high (definition p y) || false) ≡ (x == y)
  one p y l m = or_false (is_within x low high (definition p y)) ∙ inside p y l m

  own_inside : (p : ℕ) (h : Head) (a : Tree) → low ≤ p → p + weight h ≤ high → has_within x low high (defined_at p h a) ≡ made_by h a (Variable x)
  own_inside p (New y T) a l m = one p y l (omega arith)
  own_inside p (Let y T) a l m = one p y l (omega arith)
  own_inside p (Key y) a l m = one p y l (omega arith)
  own_inside p (Call y k) a l m = one p y l (omega arith)
  own_inside p (In c) a l m = all_inside p l (omega arith) (second a)
  own_inside p Branch a l m = all_inside p l (omega arith) a
  own_inside p h a l m = refl

  -- in a tree

  parts : (p : ℕ) (h : Head) (a b : Tree)
      → has_within x low high (definitions p (Node h a b)) ≡ (has_within x low high (defined_at p h a) || (has_within x low high (definitions (p + weight h) a) || has_within x low high (definitions (p + weight h + size a) b)))
  unfolding definitions
  parts p h a b =
      list_any-append (is_within x low high) (defined_at p h a) (definitions (p + weight h) a ++ definitions (p + weight h + size a) b)
      ∙ ap (λ c. has_within x low high (defined_at p h a) || c) (list_any-append (is_within x low high) (definitions (p + weight h) a) (definitions (p + weight h + size a) b))

  -- the tree stands before the places, or behind them
  tree_before : (p : ℕ) (t : Tree) → p + size t ≤ low → has_within x low high (definitions p t) ≡ false
  unfolding definitions size
  tree_before p Empty l = refl
  tree_before p (Node h a b) l =
      parts p h a b
      ∙ ap₂ (λ c d. c || d) (own_before p h a (omega arith)) (ap₂ (λ c d. c || d) (tree_before (p + weight h) a (omega arith)) (tree_before (p + weight h + size a) b (omega arith)))

  tree_behind : (p : ℕ) (t : Tree) → high ≤ p → has_within x low high (definitions p t) ≡ false
  unfolding definitions
  tree_behind p Empty l = refl
  tree_behind p (Node h a b) l =
      parts p h a b
      ∙ ap₂ (λ c d. c || d) (own_apart p h a (inr l)) (ap₂ (λ c d. c || d) (tree_behind (p + weight h) a (omega arith)) (tree_behind (p + weight h + size a) b (omega arith)))

  pub tree_inside : (p : ℕ) (t : Tree) → low ≤ p → p + size t ≤ high → has_within x low high (definitions p t) ≡ is_defined_in x t
  unfolding definitions size is_defined_in
  tree_inside p Empty l m = refl
  tree_inside p (Node h a b) l m =
      parts p h a b
      ∙ ap₂ (λ c d. c || d) (own_inside p h a l (omega arith)) (ap₂ (λ c d. c || d) (tree_inside (p + weight h) a (omega arith) (omega arith)) (tree_inside (p + weight h + size a) b (omega arith) (omega arith)))

  -- within the places of a child there are the definitions of the child alone

  pub of_first : (p : ℕ) (h : Head) (a b : Tree) → p + weight h ≤ low → high ≤ p + weight h + size a → has_within x low high (definitions p (Node h a b)) ≡ has_within x low high (definitions (p + weight h) a)
  of_first p h a b l m =
      parts p h a b
      ∙ (ap₂ (λ c d. c || (has_within x low high (definitions (p + weight h) a) || d)) (own_before p h a l) (tree_behind (p + weight h + size a) b m)
      ∙ or_false (has_within x low high (definitions (p + weight h) a)))

  pub of_second : (p : ℕ) (h : Head) (a b : Tree) → p + weight h + size a ≤ low → has_within x low high (definitions p (Node h a b)) ≡ has_within x low high (definitions (p + weight h + size a) b)
  of_second p h a b l =
      parts p h a b
      ∙ ap₂ (λ c d. c || (d || has_within x low high (definitions (p + weight h + size a) b))) (own_before p h a (omega arith)) (tree_before (p + weight h) a l)
