-- The branches of a find of a right body that go over the calls of a site, and the branches that the next game has
-- for them. This profile's own.
use Rattle.std.specs.Prelude.{ℕ, suc, ◌+◌, ◌<◌, ◌≤◌, ◌==◌, Option, if◌then◌else◌, List, [], ◌∷◌, length}
use Rattle.cv_pool.specs.KindTree.{KindTree}
use Rattle.cv_pool.specs.Nodes.{ChildBelow}
use Rattle.cv_pool.specs.declared.node.NodeId.{NodeId}
use Rattle.cv_syntax_trees.specs.declared.head.Head.TheVariants.{Binder, Branch, Cons}
use Rattle.cv_syntax_trees.specs.Tree.{Tree, Node, second_place, size}
use Rattle.cv_syntax.specs.PoolTrees.{tree_at}
use Rattle.cv_syntax.specs.Walks.{above}
use Rattle.cv_meaning.specs.contexts.Bodies.{body_place}
use Rattle.cv_meaning.specs.contexts.Inlined.{Caller, Drawn, Scope, branch_for, index_terms, with_call_of}
use Rattle.cv_inline_sites.specs.declared.pairs.branches.Branch as branches
use Rattle.cv_inline_sites.specs.declared.pairs.pairs.Pair as code

-- a branch by its number among all branches, with its index, and the place of its body
pub record Pair : Type 0 where
  pub number : ℕ
  pub index : ℕ
  pub cells : Tree
  pub condition : Tree
  pub body : Tree
  pub place : ℕ

-- of the branches from a number on, those over calls with a bound
unfoldable pub pairs_with : (bound number place : ℕ) → Tree → List Pair
pairs_with b k p (Node Cons (Node Branch (Node (Binder u n) x y) (Node Cons cells (Node Cons m body))) more) =
    let rest : List Pair = pairs_with b (suc k) (second_place p Cons (Node Branch (Node (Binder u n) x y) (Node Cons cells (Node Cons m body)))) more in
    if b == n then record { number = k; index = u; cells = cells; condition = m; body = body; place = body_place p Cons Branch (Node (Binder u n) x y) Cons cells Cons m } ∷ rest else rest
pairs_with b k p _ = []

-- the branch of the next game for a pair with a site, where the bodies of branches stand so
abbrev pub branch_of_pair : Drawn → Caller → Scope → (ℕ → ℕ → ℕ) → (ℕ → ℕ → Scope → Tree → Tree) → Caller → Pair → Tree
branch_of_pair d c Σ name inner s q =
    let Τ : Scope = with_call_of Σ q.index (index_terms c.replications) (name q.number) s in
    branch_for d c Τ (name q.number) s q.cells q.condition (inner q.number q.place Τ q.body)

abbrev pub pair_in : List KindTree → code.Pair → Pair
pair_in trees q =
    record { number = q.number; index = q.index; cells = tree_at trees q.cells; condition = tree_at trees q.condition; body = tree_at trees q.body; place = q.place }

abbrev pub pair_at : (number place : ℕ) → branches.Branch → code.Pair
pair_at k p b = record { number = k; index = b.index; cells = b.cells; condition = b.condition; body = b.body; place = p }

-- its parts are in a list of the pool at a place
pub record IsPairOver (trees : List KindTree) (place : ℕ) (list : Option NodeId) (q : code.Pair) : Type 0 where
  pub cells : ChildBelow (length trees) q.cells
  pub condition : ChildBelow (length trees) q.condition
  pub body : ChildBelow (length trees) q.body
  pub below : above q.body < above list
  pub fits : q.place + size (tree_at trees q.body) ≤ place + size (tree_at trees list)
