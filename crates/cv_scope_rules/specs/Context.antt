-- What is known at a node of a game: the replications above it, the cells that are assigned there, facts and events.
-- Reads under `defined` conditions are those of Blanchet, TDSC 2008, section 2.
use Rattle.std.specs.Prelude.{ℕ, ◌+◌, ◌-◌, nat_lt, if◌then◌else◌, List, [], ◌∷◌, ◌++◌, map, Option, Some, None}
use Rattle.cv_syntax_trees.specs.declared.head.Head.{Head}
use Rattle.cv_syntax_trees.specs.declared.head.Head.TheVariants.{Repl, In, Event, New, Let, If, Find, Branch, Leaf, Read, Eq, Not, Cons, Key, Call}
use Rattle.cv_syntax_trees.specs.Head.{weight}
use Rattle.cv_syntax_trees.specs.Tree.{Tree, Empty, Node, second, lone, chain, size}
use Rattle.cv_meaning.specs.Binders.{bound_names}
use Rattle.cv_scope_rules.specs.declared.position.Position.{Position}
use Rattle.cv_scope_rules.specs.declared.position.Position.TheVariants.{Anywhere, Bodies, ElseBody, Branches, Guards, Guarded, Cells, OneCell}

pub record Context : Type 0 where
  -- the index and the parameter of each replication above, outermost first
  pub replications : List (ℕ × ℕ)
  -- the cells of the definitions above, and those of the `defined` lists around
  pub cells : List Tree
  -- in a branch's list and condition, its index variables
  pub own : List Tree
  -- terms that are true, from the root down
  pub facts : List Tree
  -- the events above, with their terms
  pub events : List (ℕ × Tree)
  -- at the bodies of an `if`, its condition
  pub tested : Tree

abbrev pub nothing_known : Context
nothing_known = record { replications = []; cells = []; own = []; facts = []; events = []; tested = Empty }

-- x[i, ..] at the current indices
abbrev pub index_terms : List (ℕ × ℕ) → Tree
index_terms rs = chain (map (λ (r : ℕ × ℕ). lone (Leaf r.0)) rs)

abbrev pub cell_of : List (ℕ × ℕ) → ℕ → Tree
cell_of [] x = lone (Leaf x)
cell_of (r ∷ rs) x = Node (Read x) (index_terms (r ∷ rs)) Empty

-- the cells of the variables of a list of binders
abbrev pub cells_of : List (ℕ × ℕ) → Tree → List Tree
cells_of rs binders = map (cell_of rs) (bound_names binders)

-- the items of a list
abbrev pub items : Tree → List Tree
items Empty = []
items (Node h item more) = item ∷ items more

abbrev pub with_cells : Context → List Tree → Context
with_cells Γ cs = record Γ { cells = Γ.cells ++ cs }

abbrev pub with_fact : Context → Tree → Context
with_fact Γ m = record Γ { facts = Γ.facts ++ m ∷ [] }

-- `let` defines a variable, which has the value of its term
abbrev pub with_definition : Context → ℕ → Tree → Context
with_definition Γ x m = with_fact (with_cells Γ (cell_of Γ.replications x ∷ [])) (Node Eq (cell_of Γ.replications x) m)

-- the replications above the continuation of a node
abbrev pub replications_below : Head → List (ℕ × ℕ) → List (ℕ × ℕ)
replications_below (Repl i n) rs = rs ++ (i, n) ∷ []
replications_below h rs = rs

-- Positions of the item and of the rest of a list.

abbrev pub item_position : Position → Position
item_position Guards = Cells
item_position Cells = OneCell
item_position w = Anywhere

abbrev pub rest_position : Position → Position
rest_position Bodies = ElseBody
rest_position Branches = Branches
rest_position Guards = Guarded
rest_position Cells = Cells
rest_position w = Anywhere

-- positions of a node's children

abbrev pub first_position : Position → Head → Position
first_position w Cons = item_position w
first_position w (Find l) = Branches
first_position w h = Anywhere

abbrev pub second_position : Position → Head → Position
second_position w Cons = rest_position w
second_position w If = Bodies
second_position w Branch = Guards
second_position w h = Anywhere

-- What is known there. In a `defined` list the cells that stand earlier are known.

abbrev pub item_context : Position → Context → Context
item_context Bodies Γ = with_fact Γ Γ.tested
item_context ElseBody Γ = with_fact Γ (Node Not Γ.tested Empty)
item_context w Γ = Γ

abbrev pub rest_context : Position → Tree → Context → Context
rest_context Guards a Γ = with_cells Γ (items a)
rest_context Guarded a Γ = with_fact (record Γ { cells = Γ.cells ++ Γ.own; own = [] }) a
rest_context Cells a Γ = with_cells Γ (a ∷ [])
rest_context w a Γ = Γ

abbrev pub first_context : Position → Head → Context → Context
first_context w Cons Γ = item_context w Γ
first_context w h Γ = Γ

abbrev pub second_context : Position → Head → Tree → Context → Context
second_context w Cons a Γ = rest_context w a Γ
second_context w (Repl i n) a Γ = record Γ { replications = replications_below (Repl i n) Γ.replications }
second_context w (In c) a Γ = with_cells Γ (cells_of Γ.replications (second a))
second_context w (New x T) a Γ = with_cells Γ (cell_of Γ.replications x ∷ [])
second_context w (Let x T) a Γ = with_definition Γ x a
second_context w (Key x) a Γ = with_cells Γ (cell_of Γ.replications x ∷ [])
second_context w (Call x l) a Γ = with_cells Γ (cell_of Γ.replications x ∷ [])
second_context w (Event e) a Γ = record Γ { events = Γ.events ++ (e, a) ∷ [] }
second_context w If a Γ = record Γ { tested = a }
second_context w Branch a Γ = record Γ { own = Γ.own ++ cells_of Γ.replications a }
second_context w h a Γ = Γ

-- what is known at the node at a place of a tree
unfoldable pub context_at : Position → Context → Tree → ℕ → Option Context
context_at w Γ Empty p = None
context_at w Γ (Node h a b) p =
    if nat_lt p (weight h) then Some Γ
    else if nat_lt p (weight h + size a) then context_at (first_position w h) (first_context w h Γ) a (p - weight h)
    else context_at (second_position w h) (second_context w h a Γ) b (p - (weight h + size a))

abbrev pub known_at : Tree → ℕ → Option Context
known_at game p = context_at Anywhere nothing_known game p
