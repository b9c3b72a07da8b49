-- A `find` of one branch whose indices are known in other words: its branch, the terms in place of its index variables, what is to be
-- derived of them, and where a game names these variables otherwise. Blanchet, TDSC 2008, section 3, for a `find` that is decided.
use Rattle.std.specs.Prelude.{ℕ, ◌+◌, Bool, true, false, ◌&&◌, ◌||◌, ◌==◌, min, if◌then◌else◌, List, [], ◌∷◌, map, Option, Some, None}
use Rattle.std.specs.List.{list_any}
use Rattle.cv_syntax_trees.specs.declared.head.Head.TheVariants.{Binder, Branch, Cons, Defined, Eq, Find, Line}
use Rattle.cv_syntax_trees.specs.Tree.{Tree, Empty, Node, first_place, same_tree, second_place, size}
use Rattle.cv_syntax_trees.specs.sites.Sites.{first_of}
use Rattle.cv_syntax_trees.specs.declared.sites.sort.Sort.TheVariants.{BelowParameter}
use Rattle.cv_meaning_runs.specs.Replacement.{before_body}
use Rattle.cv_scope_rules.specs.Context.{cells_of, items}
use Rattle.cv_scene.specs.lines.Given.{or_node}
use Rattle.cv_scene.specs.lines.Targets.{target}
use Rattle.cv_scene.specs.Scenes.{Scene, part_at}
use Rattle.cv_scene.specs.Sights.{variable_of}
use Rattle.cv_scene.specs.Terms.{is_sort, is_term_at, replications_at}
use Rattle.cv_steps.specs.Rewriting.{sort_at}
use Rattle.cv_costs.specs.names.Reach.{is_in_scope_at}
use Rattle.cv_costs.specs.names.Naming.{is_between}

-- the only branch of a `find`
pub record Arm : Type 0 where
  pub binders : Tree
  pub cells : Tree
  pub condition : Tree
  pub body : Tree

abbrev pub only_arm : Tree → Option Arm
only_arm (Node (Find l) (Node Cons (Node Branch us (Node Cons cells (Node Cons c b))) Empty) otherwise) =
    Some (record { binders = us; cells = cells; condition = c; body = b })
only_arm t = None

-- where it stands, its body, and what follows it, in a `find` that stands at a place
abbrev pub arm_place : ℕ → ℕ
arm_place p = p + 1

abbrev pub body_place : ℕ → Arm → ℕ
body_place p a = arm_place p + before_body a.binders a.cells a.condition

abbrev pub behind_arm : ℕ → Arm → ℕ
behind_arm p a = body_place p a + size a.body

-- its index variables at the current indices
abbrev pub own_cells : Scene → ℕ → Arm → List Tree
own_cells s p a = cells_of (replications_at s p) a.binders

-- A tree with terms for cells, all at once: what is put is not looked into.

-- the term for a tree that is one of the cells: cells and terms stand in one order
abbrev pub term_of : List Tree → (terms : Tree) → Tree → Option Tree
term_of [] terms t = None
term_of (c ∷ cs) Empty t = None
term_of (c ∷ cs) (Node h m more) t = if same_tree t c then Some m else term_of cs more t

unfoldable pub with_terms : List Tree → (terms : Tree) → Tree → Tree
with_terms cs ms Empty = Empty
with_terms cs ms (Node h a b) = or_node (term_of cs ms (Node h a b)) h (with_terms cs ms a) (with_terms cs ms b)

-- Which terms may stand for the index variables: index terms at the place, of the sorts of the indices and in scope there.

abbrev pub are_terms_at : Scene → ℕ → (terms : Tree) → Bool
are_terms_at s p Empty = true
are_terms_at s p (Node h m ms) = is_term_at s p m && are_terms_at s p ms

abbrev pub are_indices_at : Scene → ℕ → (binders terms : Tree) → Bool
are_indices_at s p Empty Empty = true
are_indices_at s p (Node (Binder x T) a us) (Node h m ms) =
    (is_sort (sort_at s p m) (BelowParameter T) && is_in_scope_at s p m) && are_indices_at s p us ms
are_indices_at s p us ms = false

-- What derivations are to end with.

-- each index variable is its term
abbrev pub equations : List Tree → (terms : Tree) → Tree
equations [] terms = Empty
equations (c ∷ cs) Empty = Empty
equations (c ∷ cs) (Node h m more) = Node Cons (Node Line (Node Eq c m) Empty) (equations cs more)

-- the cells are defined, and the condition holds
abbrev pub guards : (cells : List Tree) → (condition : Tree) → Tree
guards [] c = target c
guards (cell ∷ cells) c = Node Cons (Node Defined cell Empty) (guards cells c)

-- so it is with the terms for the index variables
abbrev pub guards_with : List Tree → (terms : Tree) → Arm → Tree
guards_with cs ms a = guards (map (with_terms cs ms) (items a.cells)) (with_terms cs ms a.condition)

-- Where the index variables are named otherwise than at their site and by reads at the current indices in the branch.

-- the place of the branch, and those in it at which one of these cells stands
abbrev pub is_inside : Tree → List Tree → (arm behind : ℕ) → ℕ → Bool
is_inside game cs q r p = (p == q) || (is_between q r p && list_any (same_tree (part_at game p)) cs)

-- one of these variables is the cell
abbrev pub is_one : (ℕ → Bool) → Option ℕ → Bool
is_one xs None = false
is_one xs (Some x) = xs x

-- the first cell of a list that stands at a place that is one of them
abbrev pub first_cell : (ℕ → Bool) → (place : ℕ) → (cells : Tree) → Option ℕ
first_cell xs p Empty = None
first_cell xs p (Node h c more) = if is_one xs (variable_of c) then Some (first_place p h) else first_cell xs (second_place p h c) more

-- the first place of a tree that stands at a place where a `defined` list has such a cell
unfoldable pub first_listed : (ℕ → Bool) → (place : ℕ) → Tree → Option ℕ
first_listed xs p Empty = None
first_listed xs p (Node Branch us (Node h cells rest)) =
    first_of (first_cell xs (first_place (second_place p Branch us) h) cells)
    (first_listed xs (second_place (second_place p Branch us) h cells) rest)
first_listed xs p (Node h a b) = first_of (first_listed xs (first_place p h) a) (first_listed xs (second_place p h a) b)

-- the lesser of two places
abbrev pub lesser : Option ℕ → Option ℕ → Option ℕ
lesser None o = o
lesser (Some p) None = Some p
lesser (Some p) (Some q) = Some (min p q)
