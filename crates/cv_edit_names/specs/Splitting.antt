-- A game in which each definition of a variable has its own name. A read at the current indices below a definition has the name of the
-- definition. A branch whose list looks for a cell of the variable becomes one branch for each name, in its place: there the cell
-- has this name in the list, in the condition and in the body, whatever a definition above says. Blanchet, TDSC 2008, section 3.
use Rattle.std.specs.Prelude.{ℕ, if◌then◌else◌, List, [], ◌∷◌, ◌++◌, map, Option, Some, None}
use Rattle.cv_syntax_trees.specs.declared.head.Head.{Head}
use Rattle.cv_syntax_trees.specs.declared.head.Head.TheVariants.{Branch, Cons, Find, In, Par, Repl}
use Rattle.cv_syntax_trees.specs.Tree.{Tree, Empty, Node, first_place, second_place}
use Rattle.cv_scope_rules.specs.Context.{cell_of, replications_below}
use Rattle.cv_scope_rules.specs.Made.{made_by}
use Rattle.cv_scope_rules.specs.Sites.{Variable}
use Rattle.cv_steps.specs.Renaming.{renamed, renamed_head}
use Rattle.cv_edit_names.specs.Cells.{cells_in, first_unnamed, with_names}
use Rattle.cv_edit_names.specs.Naming.{Naming, name_at, naming_of}

-- the replications above, the cells that lists around look for with the names that they have there, and the cell of the definition above
pub record Around : Type 0 where
  pub replications : List (ℕ × ℕ)
  pub looked_for : List (Tree × ℕ)
  pub defined : List (Tree × ℕ)

abbrev pub nothing_around : Around
nothing_around = record { replications = []; looked_for = []; defined = [] }

-- what is looked for comes first
abbrev pub names_known : Around → List (Tree × ℕ)
names_known e = e.looked_for ++ e.defined

abbrev pub in_replication : Head → Around → Around
in_replication h e = record e { replications = replications_below h e.replications }

-- behind a node at a place, which may be a definition
abbrev pub behind : Naming → (place : ℕ) → Head → (first : Tree) → Around → Around
behind n p h a e =
    if made_by h a (Variable n.variable) then record e { defined = (cell_of e.replications n.variable, name_at n p) ∷ [] } else e

abbrev pub looking_for : Around → (cell : Tree) → (name : ℕ) → Around
looking_for e c y = record e { looked_for = (c, y) ∷ e.looked_for }

-- around the copies of a branch with this list: one, or one for each name
abbrev pub copies_for : Naming → Around → Option Tree → List Around
copies_for n e None = e ∷ []
copies_for n e (Some c) = map (looking_for e c) n.names

abbrev pub copies_of : Naming → Around → (cells : Tree) → List Around
copies_of n e cells = copies_for n e (first_unnamed e.looked_for (cells_in n.variable cells))

-- branches before others
abbrev pub followed_by : List Tree → Tree → Tree
followed_by [] rest = rest
followed_by (b ∷ bs) rest = Node Cons b (followed_by bs rest)

-- binders of a node at a place, and an input's message with its binders
abbrev pub with_name : Naming → (place : ℕ) → Tree → Tree
with_name n p us = renamed n.variable (name_at n p) us

abbrev pub message_with_name : Naming → (place : ℕ) → Tree → Tree
message_with_name n p Empty = Empty
message_with_name n p (Node h is bs) = Node h is (with_name n p bs)

-- the place of the body of a branch that stands at a place
abbrev pub body_place : (place : ℕ) → (binders cells condition : Tree) → ℕ
body_place p us cells c = second_place (second_place (second_place p Branch us) Cons cells) Cons c

unfoldable mutual
  -- a process that stands at a place
  pub split_in : Naming → Around → (place : ℕ) → Tree → Tree
  split_in n e p Empty = Empty
  split_in n e p (Node (Repl i m) a b) = Node (Repl i m) a (split_in n (in_replication (Repl i m) e) (second_place p (Repl i m) a) b)
  split_in n e p (Node Par a b) = Node Par (split_in n e (first_place p Par) a) (split_in n e (second_place p Par a) b)
  split_in n e p (Node Cons a b) = Node Cons (split_in n e (first_place p Cons) a) (split_in n e (second_place p Cons a) b)
  split_in n e p (Node (In c) a b) = Node (In c) (message_with_name n p a) (split_in n (behind n p (In c) a e) (second_place p (In c) a) b)
  split_in n e p (Node (Find l) a b) = Node (Find l) (split_branches n e (first_place p (Find l)) a) (split_in n e (second_place p (Find l) a) b)
  split_in n e p (Node h a b) =
      Node (renamed_head n.variable (name_at n p) h) (with_names (names_known e) a) (split_in n (behind n p h a e) (second_place p h a) b)

  -- the branches of a `find`
  pub split_branches : Naming → Around → (place : ℕ) → Tree → Tree
  split_branches n e p (Node Cons (Node Branch us (Node Cons cells (Node Cons c body))) more) =
      followed_by
      (map
      (λ d.
      Node Branch (with_name n (first_place p Cons) us)
      (Node Cons (with_names (names_known d) cells)
      (Node Cons (with_names (names_known d) c) (split_in n d (body_place (first_place p Cons) us cells c) body))))
      (copies_of n (behind n (first_place p Cons) Branch us e) cells))
      (split_branches n e (second_place p Cons (Node Branch us (Node Cons cells (Node Cons c body)))) more)
  split_branches n e p branches = branches

abbrev pub split_game : (x : ℕ) → (names : List ℕ) → (game : Tree) → Tree
split_game x ys game = split_in (naming_of game x ys) nothing_around 0 game
