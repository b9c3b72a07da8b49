-- The copies of a place: one for each value of the indices of the replications above it. In a branch's list and condition
-- there is one for each value of the branch's indices besides. Blanchet, TDSC 2008, section 2.
use Rattle.std.specs.Prelude.{ℕ, ◌+◌, ◌-◌, nat_lt, if◌then◌else◌, List, [], ◌∷◌, ◌++◌, length, Option, Some, None, option_map, option_and_then}
use Rattle.cv_syntax_trees.specs.declared.head.Head.{Head}
use Rattle.cv_syntax_trees.specs.declared.head.Head.TheVariants.{Repl, Branch, Binder}
use Rattle.cv_syntax_trees.specs.Head.{weight}
use Rattle.cv_syntax_trees.specs.Tree.{Tree, Empty, Node, first, second, size}

-- the parameter of an index that is bound
abbrev pub parameter_of : Head → List ℕ
parameter_of (Binder u n) = n ∷ []
parameter_of h = []

-- the parameters of a list of indices
unfoldable pub parameters : Tree → List ℕ
parameters Empty = []
parameters (Node h a b) = parameter_of h ++ parameters b

-- how many syntax nodes stand in the list and in the condition of a branch, behind its indices
abbrev pub guards : Tree → ℕ
guards b = size (first b) + size (first (second b))

-- the parameters that a node adds to those of a place of its second child
abbrev pub added : Head → Tree → Tree → ℕ → List ℕ
added (Repl i n) a b p = n ∷ []
added Branch a b p = if nat_lt p (guards b) then parameters a else []
added h a b p = []

-- the parameters whose product is the number of copies of a place, if there is such a place
unfoldable pub copies_at : Tree → ℕ → Option (List ℕ)
copies_at Empty p = None
copies_at (Node h a b) p =
    if nat_lt p (weight h) then Some []
    else if nat_lt p (weight h + size a) then copies_at a (p - weight h)
    else option_map (λ ns. added h a b (p - (weight h + size a)) ++ ns) (copies_at b (p - (weight h + size a)))

-- a product has at most 16 factors
abbrev pub most_factors : ℕ
most_factors = 16

abbrev pub if_few : List ℕ → Option (List ℕ)
if_few ns = if nat_lt most_factors (length ns) then None else Some ns

abbrev pub few_copies_at : Tree → ℕ → Option (List ℕ)
few_copies_at t p = option_and_then if_few (copies_at t p)
