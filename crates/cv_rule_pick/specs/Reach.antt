-- Cells that are in reach, as they are met on the way down to a place. This profile's own.
use Rattle.std.specs.Prelude.{◌≡◌, ℕ, Bool, false, ◌==◌, List, [], ◌∷◌, ◌++◌, Option, Some, None}
use Rattle.std.specs.List.{list_any}
use Rattle.cv_syntax_trees.specs.declared.head.Head.{Head}
use Rattle.cv_syntax_trees.specs.declared.head.Head.TheVariants.{Branch, Call, Cons, In, Key, Let, New}
use Rattle.cv_syntax_trees.specs.Tree.{Tree, same_tree, second}
use Rattle.cv_scope_rules.specs.declared.position.Position.{Position}
use Rattle.cv_scope_rules.specs.declared.position.Position.TheVariants.{Cells, Guarded, Guards}
use Rattle.cv_scope_rules.specs.Context.{Context, cell_of, cells_of, items}
use Rattle.cv_rule_pick.specs.declared.scope.Reach.{Reach}

-- the cells that a node gives to its second child
abbrev pub given_rest : Position → Tree → Context → List Tree
given_rest Guards a Γ = items a
given_rest Guarded a Γ = Γ.own
given_rest Cells a Γ = a ∷ []
given_rest w a Γ = []

abbrev pub given_cells : Position → Head → Tree → Context → List Tree
given_cells w Cons a Γ = given_rest w a Γ
given_cells w (In c) a Γ = cells_of Γ.replications (second a)
given_cells w (New x T) a Γ = cell_of Γ.replications x ∷ []
given_cells w (Let x T) a Γ = cell_of Γ.replications x ∷ []
given_cells w (Key x) a Γ = cell_of Γ.replications x ∷ []
given_cells w (Call x l) a Γ = cell_of Γ.replications x ∷ []
given_cells w h a Γ = []

-- the cells of a branch around whose list or condition the second child is
abbrev pub own_rest : Position → Context → List Tree
own_rest Guarded Γ = []
own_rest w Γ = Γ.own

abbrev pub own_given : Position → Head → Tree → Context → List Tree
own_given w Cons a Γ = own_rest w Γ
own_given w Branch a Γ = Γ.own ++ cells_of Γ.replications a
own_given w h a Γ = Γ.own

-- whether a tree is a cell that is in reach there
pub record Reaches (t : Tree) (Γ : Context) (r : Reach) : Type 0 where
  pub known : list_any (same_tree t) Γ.cells ≡ r.known
  pub own : list_any (same_tree t) Γ.own ≡ r.own

-- a name that is there
abbrev pub is_here : Option ℕ → ℕ → Bool
is_here None x = false
is_here (Some y) x = y == x
