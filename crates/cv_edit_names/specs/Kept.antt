-- What the code keeps of a naming, of what is around, and of a branch. This profile's own.
use Rattle.std.specs.Prelude.{◌≡◌, ℕ, ◌<◌, List, [], ◌∷◌, All, length, map, Option, Some, None}
use Rattle.cv_pool.specs.KindTree.{KindTree}
use Rattle.cv_pool.specs.Nodes.{ChildBelow}
use Rattle.cv_pool.specs.declared.node.NodeId.{NodeId}
use Rattle.cv_syntax_trees.specs.declared.head.Head.TheVariants as head
use Rattle.cv_syntax_trees.specs.Tree.{Tree, Node}
use Rattle.cv_syntax.specs.declared.open.Opened.{Opened}
use Rattle.cv_syntax.specs.PoolTrees.{tree_at}
use Rattle.cv_syntax.specs.Walks.{above}
use Rattle.cv_scope_rules.specs.Context.{cell_of}
use Rattle.cv_edit_names.specs.Naming as naming
use Rattle.cv_edit_names.specs.Parts.{branch_copies, branch_copy}
use Rattle.cv_edit_names.specs.Splitting as splitting
use Rattle.cv_edit_names.specs.declared.around.Around.{Around}
use Rattle.cv_edit_names.specs.declared.around.Looked.{Looked}
use Rattle.cv_edit_names.specs.declared.branches.Branch.{Branch}
use Rattle.cv_edit_names.specs.declared.naming.Naming.{Naming}

abbrev pub naming_in : Naming → naming.Naming
naming_in n = record { variable = n.variable; names = n.names.now; places = n.places.now }

abbrev pub looked_in : List KindTree → List Looked → List (Tree × ℕ)
looked_in trees ls = map (λ (l : Looked). (tree_at trees l.cell, l.name)) ls

abbrev pub cells_looked_for : List KindTree → List Looked → List Tree
cells_looked_for trees ls = map (λ (l : Looked). tree_at trees l.cell) ls

abbrev pub defined_in : (x : ℕ) → List (ℕ × ℕ) → Option ℕ → List (Tree × ℕ)
defined_in x rs None = []
defined_in x rs (Some y) = (cell_of rs x, y) ∷ []

abbrev pub around_in : List KindTree → (x : ℕ) → Around → splitting.Around
around_in trees x e = record {
  replications = e.replications.now;
  looked_for = looked_in trees e.looked_for.now;
  defined = defined_in x e.site.now e.name;
}

-- the cells that are looked for are in the pool
abbrev pub IsLiveLooked : ℕ → Looked → Type 0
IsLiveLooked n l = ChildBelow n l.cell

abbrev pub AreLive : ℕ → List Looked → Type 0
AreLive n ls = All (IsLiveLooked n) ls

-- a list that begins with a branch
abbrev pub branches_of : List KindTree → Branch → Tree
branches_of trees b =
    Node head.Cons (Node head.Branch (tree_at trees b.indices) (Node head.Cons (tree_at trees b.cells) (Node head.Cons (tree_at trees b.condition) (tree_at trees b.body)))) (tree_at trees b.more)

-- the parts of a branch are in the pool
pub record IsLiveBranch (n : ℕ) (b : Branch) : Type 0 where
  pub indices : ChildBelow n b.indices
  pub cells : ChildBelow n b.cells
  pub condition : ChildBelow n b.condition
  pub body : ChildBelow n b.body
  pub more : ChildBelow n b.more

-- the children of a node are in the pool, and stand below so much
pub record AreBelow (n bound : ℕ) (o : Opened) : Type 0 where
  pub first : ChildBelow n o.first
  pub second : ChildBelow n o.second
  pub first_below : above o.first < bound
  pub second_below : above o.second < bound

-- its body and the branches behind it stand below the list
pub record IsBelow (list : Option NodeId) (b : Branch) : Type 0 where
  pub body : above b.body < above list
  pub more : above b.more < above list

abbrev pub copy_in : List KindTree → naming.Naming → (place : ℕ) → Branch → splitting.Around → Tree
copy_in trees n p b d = branch_copy n p (tree_at trees b.indices) (tree_at trees b.cells) (tree_at trees b.condition) (tree_at trees b.body) d

abbrev pub copies_in : List KindTree → naming.Naming → splitting.Around → (place : ℕ) → Branch → List Tree
copies_in trees n e p b = branch_copies n e p (tree_at trees b.indices) (tree_at trees b.cells) (tree_at trees b.condition) (tree_at trees b.body)
