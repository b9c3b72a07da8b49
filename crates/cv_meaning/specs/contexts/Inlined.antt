-- The right bodies of an equivalence in place of the calls. Blanchet and Pointcheval, CRYPTO 2006; the order
-- of the branches of a find and the names that are drawn are this profile's own.
use Rattle.std.specs.Prelude.{ℕ, zero, suc, Bool, ◌==◌, not, if◌then◌else◌, List, [], ◌∷◌, ◌++◌, map, filter, Option, Some, None}
use Rattle.std.specs.List.{list_any}
use Rattle.cv_syntax_trees.specs.declared.head.Head.TheVariants.{Leaf, Read, Eq, And, Yes, No, Cons, Binder, Branch, New, Let, If, Find}
use Rattle.cv_syntax_trees.specs.Tree.{Tree, Empty, Node, lone, chain, binders, same_tree, first, first_place, second_place}
use Rattle.cv_meaning.specs.contexts.Bodies.{body_place}

-- the names that are drawn: for the key; for a name that is bound at a site; for a find at a place of a
-- site's body; and for an index of such a find, by the other site, the branch and the replication
pub record Drawn : Type 0 where
  pub key : ℕ
  pub variable : (site name : ℕ) → ℕ
  pub label : (site place : ℕ) → ℕ
  pub index : (site place other branch replication : ℕ) → ℕ

-- a site, with the bound of its function, the names that the function assigns, the replications above the
-- site, and the index terms of its key
pub record Caller : Type 0 where
  pub number : ℕ
  pub bound : ℕ
  pub names : List ℕ
  pub replications : List (ℕ × ℕ)
  pub key : Tree

-- what a name of a right body stands for: the key, a variable of this call, or, for the index of a find,
-- a call of a site at a tuple
pub data Standing : Type 0 where
  TheKey Own : Standing
  CallOf : (site : ℕ) → (tuple : Tree) → Standing

-- the newest first
abbrev pub Scope : Type 0
Scope = List (ℕ × Standing)

abbrev pub standing_of : Scope → ℕ → Option Standing
standing_of [] x = None
standing_of (p ∷ ps) x = if p.0 == x then Some p.1 else standing_of ps x

abbrev pub index_terms : List (ℕ × ℕ) → Tree
index_terms rs = chain (map (λ (r : ℕ × ℕ). lone (Leaf r.0)) rs)

-- y[ts]
abbrev pub read_at : ℕ → Tree → Tree
read_at y Empty = lone (Leaf y)
read_at y (Node h a b) = Node (Read y) (Node h a b) Empty

-- terms

-- the name is one that the caller's function assigns
abbrev pub is_own : Caller → ℕ → Bool
is_own c x = list_any (λ y. y == x) c.names

-- the variable that is drawn for a name of the caller's function
abbrev pub own_variable : Drawn → Caller → ℕ → Tree
own_variable d c x = read_at (d.variable c.number x) (index_terms c.replications)

-- of a name that isn't bound above, the function can assign it elsewhere; else it is a constant
abbrev pub leaf_in_game : Drawn → Caller → ℕ → Option Standing → Tree
leaf_in_game d c x None = if is_own c x then own_variable d c x else lone (Leaf x)
leaf_in_game d c x (Some TheKey) = read_at d.key c.key
leaf_in_game d c x (Some Own) = own_variable d c x
leaf_in_game d c x (Some (CallOf s ts)) = lone No

abbrev pub called : Option Standing → Option (ℕ × Tree)
called (Some (CallOf s ts)) = Some (s, ts)
called _ = None

abbrev pub call_in : Scope → Tree → Option (ℕ × Tree)
call_in Σ (Node (Leaf u) a b) = called (standing_of Σ u)
call_in Σ _ = None

abbrev pub array_in_game : Drawn → ℕ → Option (ℕ × Tree) → Tree
array_in_game d v None = lone No
array_in_game d v (Some k) = read_at (d.variable k.0 v) k.1

-- the equations between two lists of terms, and then a term
unfoldable pub all_equal : Tree → Tree → Tree → Tree
all_equal (Node h a more) (Node k b rest) m = Node And (Node Eq a b) (all_equal more rest m)
all_equal _ _ m = m

-- a term, and then the equations between two lists of terms
unfoldable pub and_equal : Tree → Tree → Tree → Tree
and_equal m (Node h a more) (Node k b rest) = Node And m (and_equal (Node Eq a b) more rest)
and_equal m _ _ = m

-- the conjunction of the equations between two lists of terms
abbrev pub tuples_equal : Tree → Tree → Tree
tuples_equal (Node h a more) (Node k b rest) = and_equal (Node Eq a b) more rest
tuples_equal _ _ = lone Yes

-- two indices are equal where they stand for calls of one site at equal tuples
abbrev pub indices_equal : Option (ℕ × Tree) → Option (ℕ × Tree) → Tree → Tree
indices_equal (Some j) (Some k) m = if j.0 == k.0 then tuples_equal j.1 k.1 else lone No
indices_equal _ _ m = m

unfoldable pub in_game : Drawn → Caller → Scope → Tree → Tree
in_game d c Σ Empty = Empty
in_game d c Σ (Node (Leaf x) a b) = leaf_in_game d c x (standing_of Σ x)
in_game d c Σ (Node (Read v) a b) = array_in_game d v (call_in Σ (first a))
in_game d c Σ (Node Eq a b) = indices_equal (call_in Σ a) (call_in Σ b) (Node Eq (in_game d c Σ a) (in_game d c Σ b))
in_game d c Σ (Node h a b) = Node h (in_game d c Σ a) (in_game d c Σ b)

-- the cells of a `defined` list: v[u], or a name of the function itself
abbrev pub cell_in_game : Drawn → Caller → Scope → Tree → Tree
cell_in_game d c Σ (Node (Leaf x) a b) = own_variable d c x
cell_in_game d c Σ t = in_game d c Σ t

unfoldable pub cells_in_game : Drawn → Caller → Scope → Tree → Tree
cells_in_game d c Σ Empty = Empty
cells_in_game d c Σ (Node h a more) = Node h (cell_in_game d c Σ a) (cells_in_game d c Σ more)

-- the key of another call

abbrev pub moved_leaf : List (ℕ × Tree) → ℕ → Tree
moved_leaf [] x = lone (Leaf x)
moved_leaf (p ∷ ps) x = if p.0 == x then p.1 else moved_leaf ps x

-- a term with terms for indices
unfoldable pub moved : List (ℕ × Tree) → Tree → Tree
moved ms Empty = Empty
moved ms (Node (Leaf x) a b) = moved_leaf ms x
moved ms (Node h a b) = Node h (moved ms a) (moved ms b)

-- the reads in a term, inner ones first; an index is none
unfoldable pub needed : (ℕ → Bool) → Tree → List Tree
needed is_index Empty = []
needed is_index (Node (Leaf x) a b) = if is_index x then [] else lone (Leaf x) ∷ []
needed is_index (Node (Read x) a b) = needed is_index a ++ Node (Read x) a Empty ∷ []
needed is_index (Node h a b) = needed is_index a ++ needed is_index b

-- the first of each tree
abbrev pub each_once : List Tree → List Tree
each_once [] = []
each_once (t ∷ ts) = t ∷ filter (λ r. not (same_tree r t)) (each_once ts)

abbrev pub is_index_of : List (ℕ × ℕ) → ℕ → Bool
is_index_of rs x = list_any (λ (r : ℕ × ℕ). r.0 == x) rs

-- finds

-- the indices of a branch, one for each replication
abbrev pub branch_indices : (ℕ → ℕ) → ℕ → List (ℕ × ℕ) → List (ℕ × ℕ)
branch_indices name k [] = []
branch_indices name k (r ∷ rs) = (name k, r.1) ∷ branch_indices name (suc k) rs

-- what a site's own indices stand for in a branch
abbrev pub index_moves : Tree → (ℕ → ℕ) → ℕ → List (ℕ × ℕ) → List (ℕ × Tree)
index_moves here name k [] = []
index_moves here name k (r ∷ rs) = (r.0, read_at (name k) here) ∷ index_moves here name (suc k) rs

abbrev pub index_reads : Tree → (ℕ → ℕ) → ℕ → List (ℕ × ℕ) → Tree
index_reads here name k [] = Empty
index_reads here name k (r ∷ rs) = Node Cons (read_at (name k) here) (index_reads here name (suc k) rs)

abbrev pub cells_then : List Tree → Tree → Tree
cells_then [] t = t
cells_then (c ∷ cs) t = Node Cons c (cells_then cs t)

-- the branch for calls of a site, with this list, condition and body
abbrev pub branch_for : Drawn → Caller → Scope → (ℕ → ℕ) → Caller → (cells condition body : Tree) → Tree
branch_for d c Σ name s cells condition body =
    let here : Tree = index_terms c.replications in
    let ms : List (ℕ × Tree) = index_moves here name 0 s.replications in
    Node Branch (binders (branch_indices name 0 s.replications))
    (Node Cons (cells_then (map (moved ms) (each_once (needed (is_index_of s.replications) s.key))) (cells_in_game d c Σ cells))
    (Node Cons (all_equal (moved ms s.key) c.key (in_game d c Σ condition)) body))

abbrev pub with_call_of : Scope → ℕ → Tree → (ℕ → ℕ) → Caller → Scope
with_call_of Σ u here name s = (u, CallOf s.number (index_reads here name 0 s.replications)) ∷ Σ

-- the branches for a site, from number k on, and then others; name tells the indices of the k-th
unfoldable pub expanded_at : Drawn → Caller → Scope → (ℕ → ℕ → ℕ) → (ℕ → Scope → Tree) → Caller → ℕ → Tree → Tree → Tree
expanded_at d c Σ name inner s k (Node Cons (Node Branch (Node (Binder u n) x y) (Node Cons cells (Node Cons m body))) more) rest =
    let Τ : Scope = with_call_of Σ u (index_terms c.replications) (name k) s in
    if s.bound == n
    then Node Cons (branch_for d c Τ (name k) s cells m (inner k Τ)) (expanded_at d c Σ name inner s (suc k) more rest)
    else expanded_at d c Σ name inner s (suc k) more rest
expanded_at d c Σ name inner s k _ rest = rest

-- the branches for all sites
unfoldable pub expanded : Drawn → Caller → Scope → (ℕ → ℕ → ℕ → ℕ) → (ℕ → Scope → Tree) → List Caller → Tree → Tree
expanded d c Σ name inner [] branches = Empty
expanded d c Σ name inner (s ∷ ss) branches = expanded_at d c Σ (name s.number) inner s 0 branches (expanded d c Σ name inner ss branches)

-- bodies

abbrev pub find_or_else : ℕ → Tree → Tree → Tree
find_or_else l Empty otherwise = otherwise
find_or_else l (Node h a b) otherwise = Node (Find l) (Node h a b) otherwise

-- a right body at a place; in place of each result stands what k makes of it
unfoldable mutual
  pub inlined_body : Drawn → List Caller → Caller → Scope → ℕ → Tree → (Tree → Tree) → Tree
  inlined_body d ss c Σ p (Node (New z T) a b) k = Node (New (d.variable c.number z) T) Empty (inlined_body d ss c ((z, Own) ∷ Σ) (second_place p (New z T) a) b k)
  inlined_body d ss c Σ p (Node (Let z T) a b) k = Node (Let (d.variable c.number z) T) (in_game d c Σ a) (inlined_body d ss c ((z, Own) ∷ Σ) (second_place p (Let z T) a) b k)
  inlined_body d ss c Σ p (Node If a (Node h b (Node j e f))) k =
      Node If (in_game d c Σ a) (Node Cons (inlined_body d ss c Σ (first_place (second_place p If a) h) b k) (Node Cons (inlined_body d ss c Σ (first_place (second_place (second_place p If a) h b) j) e k) Empty))
  inlined_body d ss c Σ p (Node (Find l) a b) k =
      find_or_else (d.label c.number p)
      (expanded d c Σ (d.index c.number p) (λ j Τ. inlined_branch d ss c Τ (first_place p (Find l)) a k j) ss a)
      (inlined_body d ss c Σ (second_place p (Find l) a) b k)
  inlined_body d ss c Σ p m k = k (in_game d c Σ m)

  -- the body of the j-th branch of a list at a place
  pub inlined_branch : Drawn → List Caller → Caller → Scope → ℕ → Tree → (Tree → Tree) → ℕ → Tree
  inlined_branch d ss c Σ p (Node Cons (Node Branch us (Node Cons cells (Node Cons m body))) more) k zero = inlined_body d ss c Σ (body_place p Cons Branch us Cons cells Cons m) body k
  inlined_branch d ss c Σ p (Node Cons branch more) k (suc j) = inlined_branch d ss c Σ (second_place p Cons branch) more k j
  inlined_branch d ss c Σ p _ k j = Empty

-- a call: its arguments are assigned, and then comes the right body
unfoldable pub inlined_call : Drawn → List Caller → Caller → Scope → List (ℕ × ℕ) → Tree → Tree → (Tree → Tree) → Tree
inlined_call d ss c Σ (x ∷ xs) (Node h m more) body k = Node (Let (d.variable c.number x.0) x.1) m (inlined_call d ss c ((x.0, Own) ∷ Σ) xs more body k)
inlined_call d ss c Σ _ _ body k = inlined_body d ss c Σ 0 body k
