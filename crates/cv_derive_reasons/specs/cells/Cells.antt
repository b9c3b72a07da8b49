-- The cells that a construct directly defines.
use Rattle.std.specs.Prelude.{ℕ, Bool, true, false, ◌&&◌, List, [], ◌∷◌, map, Option, None}
use Rattle.std.specs.List.{list_any}
use Rattle.cv_pool.specs.declared.node.NodeId.{NodeId}
use Rattle.cv_syntax_trees.specs.declared.head.Head.{Head}
use Rattle.cv_syntax_trees.specs.declared.head.Head.TheVariants.{Repl, In, New, Let, Branch, Cons, Key, Call, Leaf}
use Rattle.cv_syntax_trees.specs.Tree.{Tree, Empty, Node, lone, same_tree, second}
use Rattle.cv_scope_rules.specs.declared.position.Position.{Position}
use Rattle.cv_scope_rules.specs.declared.position.Position.TheVariants.{Guards, Guarded}
use Rattle.cv_scope_rules.specs.Context.{Context, cell_of, cells_of, items}
use Rattle.cv_derive_reasons.specs.substitution.Under.{under}

-- the list has the indices of replications with terms for names
abbrev pub are_indices_under : List (ℕ × ℕ) → (terms : Tree) → List (ℕ × ℕ) → Tree → Bool
are_indices_under names terms [] Empty = true
are_indices_under names terms (r ∷ rs) (Node Cons a b) = same_tree a (under names terms (lone (Leaf r.0))) && are_indices_under names terms rs b
are_indices_under names terms rs t = false

-- the cells that a node defines for its second child
abbrev pub defined_rest : Position → Tree → Context → List Tree
defined_rest Guards a Γ = items a
defined_rest Guarded a Γ = Γ.own
defined_rest w a Γ = []

abbrev pub defined_second : Position → Head → Tree → Context → List Tree
defined_second w Cons a Γ = defined_rest w a Γ
defined_second w (In c) a Γ = cells_of Γ.replications (second a)
defined_second w (New x T) a Γ = cell_of Γ.replications x ∷ []
defined_second w (Let x T) a Γ = cell_of Γ.replications x ∷ []
defined_second w (Key x) a Γ = cell_of Γ.replications x ∷ []
defined_second w (Call x l) a Γ = cell_of Γ.replications x ∷ []
defined_second w h a Γ = []

-- the indices of the branch whose list or condition the second child is
abbrev pub own_rest : Position → Option NodeId → Option NodeId
own_rest Guarded own = None
own_rest w own = own

abbrev pub own_behind : Position → Head → (first own : Option NodeId) → Option NodeId
own_behind w Cons first own = own_rest w own
own_behind w Branch first own = first
own_behind w (Repl i n) first own = None
own_behind w h first own = own

-- the cell is one of these with terms for names
abbrev pub is_among_under : List (ℕ × ℕ) → (terms cell : Tree) → List Tree → Bool
is_among_under names terms cell cells = list_any (same_tree cell) (map (under names terms) cells)
