-- The five rules of an equivalence, each over its whole tree. An equivalence that keeps them is accepted.
-- That an index of a right body needs a cell of the function with its bound is this profile's own.
use Rattle.std.specs.Prelude.{ℕ, Bool, true, false, ◌&&◌, ◌||◌, not, ◌==◌, if◌then◌else◌, List, [], ◌∷◌, ◌++◌, Option, Some, None}
use Rattle.std.specs.List.{list_any}
use Rattle.cv_syntax_trees.specs.declared.head.Head.{Head}
use Rattle.cv_syntax_trees.specs.declared.head.Head.TheVariants.{New, Let, Branch, Leaf, Read, Apply, Eq, And, Or, Not, Yes, No, Binder, Bound, Single}
use Rattle.cv_syntax_trees.specs.Head.{same_head}
use Rattle.cv_syntax_trees.specs.Tree.{Tree, Empty, Node, first, second, bound_names, same_tree}
use Rattle.cv_syntax.specs.NameSets.{is_one_of}
use Rattle.cv_meaning.specs.contexts.Groups.{Which, Left, Right, side_tree, bound_of}
use Rattle.cv_meaning.specs.contexts.Made.{has_cell_at}
use Rattle.cv_group_rules.specs.Symbols.{Symbols}

-- a side's key, and its functions
abbrev pub key_in : Which → Tree → Tree
key_in which t = first (side_tree which t)

abbrev pub functions_in : Which → Tree → Tree
functions_in which t = second (side_tree which t)

-- each function of a list
unfoldable pub each_function : (Tree → Bool) → Tree → Bool
each_function passes Empty = true
each_function passes (Node h f more) = passes f && each_function passes more

-- The bodies on the left are terms.

abbrev pub is_term_head : Head → Bool
is_term_head (Leaf x) = true
is_term_head (Read x) = true
is_term_head (Apply f) = true
is_term_head Eq = true
is_term_head And = true
is_term_head Or = true
is_term_head Not = true
is_term_head Yes = true
is_term_head No = true
is_term_head h = false

abbrev pub is_term : Tree → Bool
is_term Empty = false
is_term (Node h a b) = is_term_head h

abbrev pub left_bodies_are_terms : Tree → Bool
left_bodies_are_terms t = each_function (λ f. is_term (second f)) (functions_in Left t)

-- Each branch of a `find` on the right has exactly one index.

abbrev pub is_one_binder : Tree → Bool
is_one_binder (Node (Binder u n) a Empty) = true
is_one_binder t = false

abbrev pub has_one_index : Head → Tree → Bool
has_one_index Branch indices = is_one_binder indices
has_one_index h a = true

unfoldable pub have_one_index : Tree → Bool
have_one_index Empty = true
have_one_index (Node h a b) = has_one_index h a && (have_one_index a && have_one_index b)

abbrev pub branches_have_one_index : Tree → Bool
branches_have_one_index t = have_one_index (side_tree Right t)

-- The shapes of the sides agree: the bounds of their keys, and one by one the names, the bounds and the arguments of
-- their functions. Names of keys, of indices and of what is chosen may differ. Functions of one side have different bounds.

abbrev pub same_bound : Head → Head → Bool
same_bound (Bound i n) (Bound j m) = n == m
same_bound (Single f) (Single g) = f == g
same_bound h k = false

-- two functions, by the node over what they take
abbrev pub take_alike : Tree → Tree → Bool
take_alike (Node h chosen arguments) (Node k others like) = same_bound h k && same_tree arguments like
take_alike s t = false

abbrev pub functions_agree : Tree → Tree → Bool
functions_agree (Node h s body) (Node k t other) = same_head h k && take_alike s t
functions_agree f g = false

unfoldable pub all_agree : Tree → Tree → Bool
all_agree Empty Empty = true
all_agree (Node h f more) (Node k g rest) = functions_agree f g && all_agree more rest
all_agree s t = false

abbrev pub groups_agree : Tree → Tree → Bool
groups_agree (Node h key functions) (Node k other rest) = same_bound h k && all_agree functions rest
groups_agree s t = false

abbrev pub bounds : Tree → List ℕ
bounds Empty = []
bounds (Node h f more) = bound_of (first f) ∷ bounds more

abbrev pub are_distinct : List ℕ → Bool
are_distinct [] = true
are_distinct (x ∷ xs) = not (is_one_of xs x) && are_distinct xs

abbrev pub shapes_agree : Tree → Bool
shapes_agree t = groups_agree (first t) (second t) && (are_distinct (bounds (functions_in Left t)) && are_distinct (bounds (functions_in Right t)))

-- What a body names is bound there, and what it calls is declared.

-- what a body binds on the way to a node
pub data Level : Type 0 where
  Defined : (name : ℕ) → Level  -- by `new` or `let`
  -- the index of a branch and its bound, and of the branch's list the cells v[u] and the names without an index
  Found : (index bound : ℕ) → (reads : ℕ → ℕ → Bool) → (names : ℕ → Bool) → Level

-- what a body may name besides
pub record Around : Type 0 where
  pub outside : ℕ → Bool  -- constants, the key, and what is chosen for the function and its arguments
  pub callable : ℕ → Bool  -- the functions of the file
  pub bound : ℕ  -- of the function
  pub names : ℕ → ℕ → Bool  -- what the functions of the side with a bound bind

-- Levels stand from the outermost on. Of two bindings of one name the newest is meant.

-- a name that a level binds, or that a list asks for
abbrev pub gives : ℕ → Level → Bool
gives x (Defined y) = y == x
gives x (Found u n reads names) = (u == x) || names x

abbrev pub is_readable : Around → List Level → ℕ → Bool
is_readable o ls x = o.outside x || list_any (gives x) ls

-- the bound over which a name ranges, if it is an index
abbrev pub ranging : ℕ → Option ℕ → Level → Option ℕ
ranging u over (Defined y) = if y == u then None else over
ranging u over (Found w n reads names) = if w == u then Some n else over

unfoldable pub range_of : ℕ → Option ℕ → List Level → Option ℕ
range_of u over [] = over
range_of u over (l ∷ ls) = range_of u (ranging u over l) ls

-- whether a list around asks for v[u], with u as it is meant here
abbrev pub asking : ℕ → ℕ → Bool → Level → Bool
asking v u asked (Defined y) = if y == u then false else asked
asking v u asked (Found w n reads names) = reads v u || (if w == u then false else asked)

unfoldable pub is_asked : ℕ → ℕ → Bool → List Level → Bool
is_asked v u asked [] = asked
is_asked v u asked (l ∷ ls) = is_asked v u (asking v u asked l) ls

-- the index of v[u]
abbrev pub index_in : Tree → Option ℕ
index_in (Node h (Node (Leaf u) Empty Empty) Empty) = Some u
index_in indices = None

abbrev pub is_asked_at : List Level → ℕ → Option ℕ → Bool
is_asked_at ls v None = false
is_asked_at ls v (Some u) = is_asked v u false ls

-- cells of a list: v[u] with a name v of a function with the bound of u, or a name of the body's own function

abbrev pub is_named_by : Around → ℕ → Option ℕ → Bool
is_named_by o v None = false
is_named_by o v (Some n) = o.names n v

abbrev pub is_named_at : Around → List Level → ℕ → Option ℕ → Bool
is_named_at o ls v None = false
is_named_at o ls v (Some u) = is_named_by o v (range_of u None ls)

abbrev pub is_cell : Around → List Level → Tree → Bool
is_cell o ls (Node (Leaf x) a b) = o.names o.bound x
is_cell o ls (Node (Read v) a b) = is_named_at o ls v (index_in a)
is_cell o ls t = false

unfoldable pub are_cells : Around → List Level → Tree → Bool
are_cells o ls Empty = true
are_cells o ls (Node h cell more) = is_cell o ls cell && are_cells o ls more

abbrev pub is_index : ℕ → Option ℕ → Bool
is_index u None = false
is_index u (Some w) = w == u

abbrev pub is_read : ℕ → ℕ → Tree → Bool
is_read v u (Node (Read w) a b) = (w == v) && is_index u (index_in a)
is_read v u t = false

unfoldable pub has_read : Tree → ℕ → ℕ → Bool
has_read Empty v u = false
has_read (Node h cell more) v u = is_read v u cell || has_read more v u

abbrev pub is_name : ℕ → Tree → Bool
is_name x (Node (Leaf y) a b) = y == x
is_name x t = false

unfoldable pub has_name : Tree → ℕ → Bool
has_name Empty x = false
has_name (Node h cell more) x = is_name x cell || has_name more x

-- a branch with these cells, by its indices
abbrev pub found : Tree → Tree → List Level
found (Node (Binder u n) a b) cells = Found u n (has_read cells) (has_name cells) ∷ []
found indices cells = []

-- its list has a cell at its own index
abbrev pub has_own_cell : Tree → Tree → Bool
has_own_cell (Node (Binder u n) a b) cells = has_cell_at u cells
has_own_cell indices cells = false

-- a node names only what is bound; cells are looked into like terms, at which their own list stands around
abbrev pub names_bound : Around → List Level → Head → Tree → Tree → Bool
names_bound o ls (Leaf x) a b = is_readable o ls x
names_bound o ls (Read v) a b = is_asked_at ls v (index_in a)
names_bound o ls (Apply f) a b = o.callable f
names_bound o ls Branch a b = has_own_cell a (first b) && are_cells o (ls ++ found a (first b)) (first b)
names_bound o ls h a b = true

-- what a node binds for its second child
abbrev pub behind : Head → Tree → Tree → List Level
behind (New x T) a b = Defined x ∷ []
behind (Let x T) a b = Defined x ∷ []
behind Branch a b = found a (first b)
behind h a b = []

unfoldable pub is_bound : Around → List Level → Tree → Bool
is_bound o ls Empty = true
is_bound o ls (Node h a b) = names_bound o ls h a b && (is_bound o ls a && is_bound o (ls ++ behind h a b) b)

-- the functions that a tree calls, and that the bodies of a side call
abbrev pub calls_here : Head → ℕ → Bool
calls_here (Apply g) f = g == f
calls_here h f = false

unfoldable pub calls : Tree → ℕ → Bool
calls Empty f = false
calls (Node h a b) f = calls_here h f || (calls a f || calls b f)

unfoldable pub bodies_call : Tree → ℕ → Bool
bodies_call Empty f = false
bodies_call (Node h g more) f = calls (second g) f || bodies_call more f

-- the names that a body defines, and those that a function binds
abbrev pub defines_here : Head → ℕ → Bool
defines_here (New x T) y = x == y
defines_here (Let x T) y = x == y
defines_here h y = false

unfoldable pub defines : Tree → ℕ → Bool
defines Empty y = false
defines (Node h a b) y = defines_here h y || (defines a y || defines b y)

abbrev pub takes : Tree → ℕ → Bool
takes taken x = is_one_of (bound_names (first taken)) x || is_one_of (bound_names (second taken)) x

abbrev pub binds_name : Tree → ℕ → Bool
binds_name f x = takes (first f) x || defines (second f) x

unfoldable pub names_of : Tree → ℕ → ℕ → Bool
names_of Empty n x = false
names_of (Node h f more) n x = ((bound_of (first f) == n) && binds_name f x) || names_of more n x

abbrev pub around : Symbols → (key functions f : Tree) → Around
around symbols key functions f = record {
  outside = λ x. symbols.constant x || (is_one_of (bound_names key) x || takes (first f) x);
  callable = symbols.function;
  bound = bound_of (first f);
  names = names_of functions;
}

abbrev pub side_is_bound : Symbols → (key functions : Tree) → Bool
side_is_bound symbols key functions = each_function (λ f. is_bound (around symbols key functions f) [] (second f)) functions

abbrev pub names_are_bound : Symbols → Tree → Bool
names_are_bound symbols t =
    side_is_bound symbols (key_in Left t) (functions_in Left t) && side_is_bound symbols (key_in Right t) (functions_in Right t)

-- Each body on the left reads its key, what is chosen for its function, and the function's arguments. Of two of these with one
-- name the newest is meant, so an older one isn't read.

abbrev pub names_here : Head → ℕ → Bool
names_here (Leaf y) x = y == x
names_here h x = false

unfoldable pub reads : Tree → ℕ → Bool
reads Empty x = false
reads (Node h a b) x = names_here h x || (reads a x || reads b x)

abbrev pub are_read : (ℕ → Bool) → List ℕ → Bool
are_read read [] = true
are_read read (x ∷ xs) = (read x && not (is_one_of xs x)) && are_read read xs

-- in the order of their bindings
abbrev pub taken_names : (key f : Tree) → List ℕ
taken_names key f = bound_names key ++ (bound_names (first (first f)) ++ bound_names (second (first f)))

abbrev pub names_are_read : Tree → Bool
names_are_read t = each_function (λ f. are_read (reads (second f)) (taken_names (key_in Left t) f)) (functions_in Left t)
