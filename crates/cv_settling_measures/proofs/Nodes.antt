-- Facts of all nodes of a tree, and trees that are in another one.
use Rattle.std.proofs.Common.{◌≡◌, ℕ, ◌+◌, ◌-◌, Bool, true, false, cond, Some, subst, nat_lt}
use Rattle.cv_syntax_trees.specs.declared.head.Head.{Head}
use Rattle.cv_syntax_trees.specs.Head.{weight}
use Rattle.cv_syntax_trees.specs.Tree.{Tree, Empty, Node, size, subtree}
use Rattle.cv_syntax_trees.proofs.lists.Options.{some_injective}

-- a tree is another one or in a child of it
pub data IsIn (u : Tree) : Tree → Type 0 where
  itself : IsIn u u
  in_first : {h : Head} {a b : Tree} → IsIn u a → IsIn u (Node h a b)
  in_second : {h : Head} {a b : Tree} → IsIn u b → IsIn u (Node h a b)

pub inside : (t : Tree) (p : ℕ) (u : Tree) → subtree t p ≡ Some u → IsIn u t
unfolding subtree
inside Empty p u e = absurd (cc)
inside (Node h a b) p u e = go (nat_lt p (weight h)) (nat_lt p (weight h + size a)) e (inside a (p - weight h) u) (inside b (p - (weight h + size a)) u)
  where
    go : (v w : Bool) → cond v (Some (Node h a b)) (cond w (subtree a (p - weight h)) (subtree b (p - (weight h + size a)))) ≡ Some u
        → (subtree a (p - weight h) ≡ Some u → IsIn u a) → (subtree b (p - (weight h + size a)) ≡ Some u → IsIn u b) → IsIn u (Node h a b)
    go true w e k l = subst (λ t. IsIn t (Node h a b)) (some_injective e) itself
    go false true e k l = in_first (k e)
    go false false e k l = in_second (l e)

-- each node has the fact, by its head and its children
module _ (K : Head → Tree → Tree → Type 0) where
  unfoldable pub AllNodes : Tree → Type 0
  AllNodes Empty = Unit {0}
  AllNodes (Node h a b) = K h a b × AllNodes a × AllNodes b

  pub nodes_in : (u t : Tree) → IsIn u t → AllNodes t → AllNodes u
  unfolding AllNodes
  nodes_in u t itself k = k
  nodes_in u t (in_first {h = h} {a = a} {b = b} i) k = nodes_in u a i k.1
  nodes_in u t (in_second {h = h} {a = a} {b = b} i) k = nodes_in u b i k.2

  pub node_of : (h : Head) (a b : Tree) → AllNodes (Node h a b) → K h a b
  unfolding AllNodes
  node_of h a b k = k.0

  pub parts_of_all : (h : Head) (a b : Tree) → AllNodes (Node h a b) → AllNodes a × AllNodes b
  unfolding AllNodes
  parts_of_all h a b k = (k.1, k.2)

  pub join : (h : Head) (a b : Tree) → K h a b → AllNodes a → AllNodes b → AllNodes (Node h a b)
  unfolding AllNodes
  join h a b k l n = (k, l, n)
