-- A scope of the code as one of the definitions. This profile's own.
use Rattle.std.specs.Prelude.{ℕ, ◌==◌, if◌then◌else◌, List, map, reverse, Option, Some, None}
use Rattle.cv_syntax_trees.specs.declared.head.Head.TheVariants.{No}
use Rattle.cv_syntax_trees.specs.Tree.{Tree, lone}
use Rattle.cv_meaning.specs.contexts.Inlined as bodies
use Rattle.cv_inline.specs.declared.terms.scope.Called.{Called}
use Rattle.cv_inline.specs.declared.terms.scope.Entry.{Entry}
use Rattle.cv_inline.specs.declared.terms.scope.Standing.{Standing}
use Rattle.cv_inline.specs.declared.terms.scope.Standing.TheVariants.{TheKey, Own, CallOf}
use Rattle.cv_inline.specs.terms.Stacks.{tuple_at}

-- where these are the indices of the replications
abbrev pub standing_in : Tree → Standing → bodies.Standing
standing_in here TheKey = bodies.TheKey
standing_in here Own = bodies.Own
standing_in here (CallOf site indices) = bodies.CallOf site (tuple_at here indices.items)

abbrev pub entry_in : Tree → Entry → ℕ × bodies.Standing
entry_in here e = (e.name, standing_in here e.standing)

-- the newest name is the last of a list, and the first of a scope
abbrev pub scope_in : Tree → List Entry → bodies.Scope
scope_in here entries = map (entry_in here) (reverse entries)

abbrev pub called_at : Tree → Called → ℕ × Tree
called_at here k = (k.site, tuple_at here k.indices.now)

abbrev pub called_by : Tree → Option Called → Option (ℕ × Tree)
called_by here None = None
called_by here (Some k) = Some (called_at here k)

abbrev pub pair_by : Tree → Called × Called → (ℕ × Tree) × (ℕ × Tree)
pair_by here p = (called_at here p.0, called_at here p.1)

-- both, if there are both
abbrev pub both : {A : Type 0} → Option A → Option A → Option (A × A)
both (Some a) (Some b) = Some (a, b)
both _ _ = None

-- two calls are one where their sites are one and their tuples equal
abbrev pub same_call : ℕ × Tree → ℕ × Tree → Tree
same_call j k = if j.0 == k.0 then bodies.tuples_equal j.1 k.1 else lone No
