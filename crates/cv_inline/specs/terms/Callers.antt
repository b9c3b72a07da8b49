-- A caller of the code as one of the definitions. This profile's own.
use Rattle.std.specs.Prelude.{ℕ, ◌==◌, if◌then◌else◌, List}
use Rattle.cv_pool.specs.KindTree.{KindTree}
use Rattle.cv_pool.specs.Nodes.{ChildBelow}
use Rattle.std.specs.List.{list_any}
use Rattle.cv_syntax_trees.specs.declared.head.Head.TheVariants.{Leaf}
use Rattle.cv_syntax_trees.specs.Tree.{Tree, lone}
use Rattle.cv_syntax.specs.PoolTrees.{tree_at}
use Rattle.cv_meaning.specs.contexts.Inlined as bodies
use Rattle.cv_inline.specs.declared.terms.caller.Caller.{Caller}
use Rattle.cv_inline.specs.declared.terms.calling.Calling.{Calling}

abbrev pub caller_in : List KindTree → Caller → bodies.Caller
caller_in trees c = record { number = c.number; bound = c.bound; names = c.names.items; replications = c.replications.items; key = tree_at trees c.key }

-- the terms of its key are in the pool
abbrev pub IsLiveCaller : ℕ → Caller → Type 0
IsLiveCaller live c = ChildBelow live c.key

abbrev pub HasLiveCaller : ℕ → Calling → Type 0
HasLiveCaller live s = IsLiveCaller live s.caller

-- a name that isn't bound above the place where it is read
abbrev pub unbound_name : bodies.Drawn → Caller → ℕ → Tree
unbound_name d c x = if list_any (λ y. y == x) c.names.items then bodies.read_at (d.variable c.number x) (bodies.index_terms c.replications.items) else lone (Leaf x)
