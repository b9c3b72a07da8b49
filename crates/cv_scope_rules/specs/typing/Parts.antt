-- The parts of a file whose terms are typed, in its preorder: equations, bodies of equivalences, queries, the process.
use Rattle.std.specs.Prelude.{◌≤◌, ℕ, ◌+◌, ◌==◌, ◌⊎◌, if◌then◌else◌, List, [], ◌∷◌, ◌++◌, flat_map, Option, Some, None}
use Rattle.cv_syntax_trees.specs.declared.head.Head.{Head}
use Rattle.cv_syntax_trees.specs.declared.head.Head.TheVariants.{New, Let, Bound, Single}
use Rattle.cv_syntax_trees.specs.Declarations.{Declaration, Named, Equation, Equiv, Query}
use Rattle.cv_syntax_trees.specs.Tree.{Tree, Empty, Node, first, second, size}
use Rattle.cv_scope_rules.specs.declared.typing.fault.Fault.{Fault}
use Rattle.cv_scope_rules.specs.declared.typing.form.Form.TheVariants.{InProcess, InBody}
use Rattle.cv_scope_rules.specs.declared.typing.precedence.Precedence.TheVariants.{First, Newest}
use Rattle.cv_syntax_trees.specs.declared.sites.sort.Sort.{Sort}
use Rattle.cv_syntax_trees.specs.declared.sites.sort.Sort.TheVariants.{OfType}
use Rattle.cv_syntax_trees.specs.sites.Sites.{first_of, sites_of}
use Rattle.cv_scope_rules.specs.typing.Signature.{Signature, Arrays, OfGame, OfSide, OfNothing, Above, boolean, sort_of}
use Rattle.cv_scope_rules.specs.typing.Wants.{Want, Run, Of, Correspondence, all_bound}
use Rattle.cv_scope_rules.specs.typing.Typing.{IsTyped, Faulty, first_fault}

pub record Part : Type 0 where
  pub arrays : Arrays
  pub above : Above
  pub want : Want
  pub tree : Tree

abbrev pub nothing_above : Above
nothing_above x = None

-- a process stands below nothing
abbrev pub game_part : Tree → Part
game_part t = record { arrays = OfGame (sites_of t); above = nothing_above; want = Run InProcess; tree = t }

-- the variables of an equation or a query; of two binders of one name the first counts
abbrev pub local_names : Tree → Above
local_names binders = all_bound First nothing_above OfType binders

-- an equation is of type `bool`
abbrev pub equation_part : Tree → Part
equation_part t = record { arrays = OfNothing; above = local_names (first t); want = Of boolean; tree = second t }

abbrev pub query_part : Tree → Part
query_part t = record { arrays = OfNothing; above = local_names (first t); want = Correspondence; tree = t }

-- equivalences

abbrev pub bound_name : Head → ℕ
bound_name (Bound i n) = n
bound_name (Single f) = f
bound_name h = 0

-- the bound of a function, the variables that are chosen for it and its arguments
abbrev pub bound_at : Tree → ℕ
bound_at Empty = 0
bound_at (Node h chosen arguments) = bound_name h

-- the sort with which `new` or `let` of a body first defines a name
abbrev pub local_here : ℕ → Head → Option Sort
local_here x (New y T) = if y == x then Some (OfType T) else None
local_here x (Let y T) = if y == x then Some (OfType T) else None
local_here x h = None

unfoldable pub local_in : ℕ → Tree → Option Sort
local_in x Empty = None
local_in x (Node h a b) = first_of (local_here x h) (first_of (local_in x a) (local_in x b))

-- names, with the chosen variables and the arguments of a function with this first child; the newest binding counts
abbrev pub with_taken : Above → Tree → Above
with_taken above taken = all_bound Newest (all_bound Newest above OfType (first taken)) OfType (second taken)

-- the sort that a function, whose first child and body these are, gives a name wherever it binds the name
abbrev pub own_sort : ℕ → Tree → Tree → Option Sort
own_sort x taken body = first_of (with_taken nothing_above taken x) (local_in x body)

-- the sort of a name of the functions with a bound
unfoldable pub sort_by_bound : Tree → ℕ → ℕ → Option Sort
sort_by_bound Empty m x = None
sort_by_bound (Node h f more) m x =
    if bound_at (first f) == m then first_of (own_sort x (first f) (second f)) (sort_by_bound more m x) else sort_by_bound more m x

-- the names of the key, of the chosen variables and of the arguments, in a function with this first child
abbrev pub names_of : Tree → Tree → Above
names_of key taken = with_taken (all_bound Newest nothing_above OfType key) taken

-- the sorts of the results of functions, one by one, where they are terms
unfoldable pub results : Signature → (key functions : Tree) → List (Option Sort)
results e key Empty = []
results e key (Node h f more) = sort_of e (names_of key (first f)) (second f) ∷ results e key more

abbrev pub first_result : List (Option Sort) → Option Sort
first_result [] = None
first_result (S ∷ Ss) = S

abbrev pub more_results : List (Option Sort) → List (Option Sort)
more_results [] = []
more_results (S ∷ Ss) = Ss

-- a side's arrays in the body of one of its functions
abbrev pub in_function : Arrays → Tree → Arrays
in_function (OfSide by_bound own) f = OfSide by_bound (λ x. own_sort x (first f) (second f))
in_function arrays f = arrays

-- the bodies of functions, with results of these sorts
unfoldable pub body_parts : Arrays → (key : Tree) → List (Option Sort) → (functions : Tree) → List Part
body_parts arrays key Ss Empty = []
body_parts arrays key Ss (Node h f more) =
    record { arrays = in_function arrays f; above = names_of key (first f); want = Run (InBody (first_result Ss)); tree = second f }
    ∷ body_parts arrays key (more_results Ss) more

-- the arrays of a side, outside the bodies of its functions
abbrev pub side_arrays : Tree → Arrays
side_arrays group = OfSide (sort_by_bound (second group)) nothing_above

-- on the right the results have the sorts that those on the left have
abbrev pub equivalence_parts : List Declaration → Tree → List Part
equivalence_parts ds t =
    body_parts (side_arrays (first t)) (first (first t)) [] (second (first t))
    ++ body_parts (side_arrays (second t)) (first (second t)) (results (record { declarations = ds; arrays = side_arrays (first t) }) (first (first t)) (second (first t))) (second (second t))

-- files

abbrev pub declaration_parts : List Declaration → Declaration → List Part
declaration_parts ds (Named x class args result) = []
declaration_parts ds (Equation t) = equation_part t ∷ []
declaration_parts ds (Equiv x t) = equivalence_parts ds t
declaration_parts ds (Query t) = query_part t ∷ []

abbrev pub file_parts : List Declaration → Tree → List Part
file_parts ds game = flat_map (declaration_parts ds) ds ++ game_part game ∷ []

abbrev pub signature_of : List Declaration → Part → Signature
signature_of ds part = record { declarations = ds; arrays = part.arrays }

abbrev pub IsTypedPart : List Declaration → Part → Type 0
IsTypedPart ds part = IsTyped (signature_of ds part) part.above part.want part.tree

unfoldable pub AreTyped : List Declaration → List Part → Type 0
AreTyped ds [] = Unit {0}
AreTyped ds (part ∷ parts) = IsTypedPart ds part × AreTyped ds parts

-- the first fault of parts, the first of which stands at a place
unfoldable pub first_in : List Declaration → ℕ → List Part → Option (ℕ × Fault)
first_in ds p [] = None
first_in ds p (part ∷ parts) =
    first_of (first_fault (signature_of ds part) part.above part.want p part.tree) (first_in ds (p + size part.tree) parts)

-- a node at q of the parts has the fault
unfoldable pub FaultyIn : List Declaration → ℕ → List Part → ℕ → Fault → Type 0
FaultyIn ds p [] q f = ⊥
FaultyIn ds p (part ∷ parts) q f = Faulty (signature_of ds part) part.above part.want p part.tree q f ⊎ FaultyIn ds (p + size part.tree) parts q f

-- a fault of parts, the first of which stands at p, and none at a lesser place
pub record IsFirstIn (ds : List Declaration) (p : ℕ) (parts : List Part) (q : ℕ) (f : Fault) : Type 0 where
  pub there : FaultyIn ds p parts q f
  pub least : (r : ℕ) (g : Fault) → FaultyIn ds p parts r g → q ≤ r

-- games and files

abbrev pub IsTypedGame : List Declaration → Tree → Type 0
IsTypedGame ds game = IsTypedPart ds (game_part game)

abbrev pub IsTypedFile : List Declaration → Tree → Type 0
IsTypedFile ds game = AreTyped ds (file_parts ds game)
