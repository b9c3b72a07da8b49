-- A variable that comes later than a place: each of its definitions stands at the process that holds the place or below it, or in another
-- body of an `if` or a `find`. A copy of a process is visited once, its bodies exclude each other, and what stands below is visited
-- later: so none of its cells at the current indices is assigned there. This profile's own.
use Rattle.std.specs.Prelude.{ℕ, ◌+◌, ◌-◌, Bool, true, false, ◌&&◌, ◌||◌, not, nat_lt, if◌then◌else◌, List, [], ◌∷◌, Option, Some, None}
use Rattle.cv_syntax_trees.specs.declared.head.Head.{Head}
use Rattle.cv_syntax_trees.specs.declared.head.Head.TheVariants.{Branch, Eq, Leaf, Par}
use Rattle.cv_syntax_trees.specs.Head.{weight}
use Rattle.cv_syntax_trees.specs.Tree.{Tree, Empty, Node, first, lone, same_tree, second, size}
use Rattle.cv_scope_rules.specs.Context.{items}
use Rattle.cv_scope_rules.specs.Made.{is_bound, made_by}
use Rattle.cv_scope_rules.specs.Sites.{Variable}
use Rattle.cv_scene.specs.lines.Inferences.{Visible, cited_term}
use Rattle.cv_scene.specs.Sights.{Pair, Sight, variable_of}

-- some node of the tree defines the variable
unfoldable pub is_defined_in : ℕ → Tree → Bool
is_defined_in x Empty = false
is_defined_in x (Node h a b) = made_by h a (Variable x) || (is_defined_in x a || is_defined_in x b)

-- the other side of a parallel composition defines it nowhere; of the bodies of an `if` or a `find` one alone is taken
abbrev pub is_free_beside : ℕ → Head → (side : Tree) → Bool
is_free_beside x Par t = not (is_defined_in x t)
is_free_beside x h t = true

-- how many syntax nodes stand in the list and in the condition of a branch, behind its indices
abbrev pub guards : Tree → ℕ
guards rest = size (first rest) + size (first (second rest))

-- the node defines it above a place of its second child: a branch does so in its body, and not in its list and its condition
abbrev pub is_defined_above : ℕ → Head → (a b : Tree) → (place : ℕ) → Bool
is_defined_above x Branch us b p = is_bound us x && not (nat_lt p (guards b))
is_defined_above x h a b p = made_by h a (Variable x)

-- each definition in the tree comes later than the place, if there is such a place
unfoldable pub is_late : ℕ → Tree → ℕ → Bool
is_late x Empty p = false
is_late x (Node h a b) p =
    if nat_lt p (weight h) then true
    else if nat_lt p (weight h + size a) then is_free_beside x h b && is_late x a (p - weight h)
    else not (is_defined_above x h a b (p - (weight h + size a))) && (is_free_beside x h a && is_late x b (p - (weight h + size a)))

abbrev pub is_late_one : Option ℕ → Tree → ℕ → Bool
is_late_one None game p = false
is_late_one (Some x) game p = is_late x game p

-- the index of a replication
abbrev pub index_term : ℕ × ℕ → Tree
index_term r = lone (Leaf r.0)

-- the first of the cited lines says that a term is true
abbrev pub is_next : Visible → (lines : List Tree) → (term : Tree) → Bool
is_next v [] t = false
is_next v (l ∷ ls) t = same_tree (cited_term v l) t

abbrev pub without_next : List Tree → List Tree
without_next [] = []
without_next (l ∷ ls) = ls

-- The terms are the outermost current indices, in order: each is the index itself, or the next cited line says that it is equal to it.
-- No line is left over.
abbrev pub are_current : Visible → List (ℕ × ℕ) → (terms lines : List Tree) → Bool
are_current v rs [] [] = true
are_current v (r ∷ rs) (m ∷ ms) ls =
    if same_tree m (index_term r) then are_current v rs ms ls else is_next v ls (Node Eq m (index_term r)) && are_current v rs ms (without_next ls)
are_current v rs ms ls = false

-- two copies are reached at two moments, so neither tells what comes later
abbrev pub is_alone : Option Pair → Bool
is_alone None = true
is_alone (Some o) = false

-- a cell at current indices of a variable that comes later than the place
abbrev pub is_late_cell : Sight → Visible → (cell lines : Tree) → Bool
is_late_cell s v c ls =
    is_alone s.pair && (is_late_one (variable_of c) s.scene.game s.place && are_current v s.replications (items (first c)) (items ls))
