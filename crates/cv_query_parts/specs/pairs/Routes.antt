-- Where routes end, by what they say, and the pair that two of them need.
use Rattle.std.specs.Prelude.{ℕ, Bool, false, ◌==◌, List, [], map, take, length, Option, Some, None}
use Rattle.cv_pool.specs.KindTree.{KindTree}
use Rattle.cv_pool.specs.Nodes.{ChildBelow}
use Rattle.cv_syntax_trees.specs.declared.head.Head.TheVariants.{Leaf}
use Rattle.cv_syntax_trees.specs.Tree.{Tree, first, lone}
use Rattle.cv_syntax.specs.PoolTrees.{tree_at}
use Rattle.cv_scope_rules.specs.Context.{items}
use Rattle.cv_scene.specs.Late.{index_term}
use Rattle.cv_scene.specs.Pairs.{of_second}
use Rattle.cv_scene.specs.Scenes.{Scene}
use Rattle.cv_scene.specs.Terms.{replications_at}
use Rattle.cv_query_certificates.specs.Pairs.{End, Needed, equations_between}
use Rattle.cv_query_parts.specs.Said.{Way, Above, ByCell}
use Rattle.cv_query_parts.specs.declared.pairs.routes.Index.{Index}
use Rattle.cv_query_parts.specs.declared.pairs.routes.Index.TheVariants.{Own, Term}

-- the node of the right event
abbrev pub node_of : Way → Option ℕ
node_of (Above q by) = Some q
node_of (ByCell c q by) = Some q
node_of w = None

abbrev pub are_same : Option ℕ → Option ℕ → Bool
are_same (Some m) (Some n) = m == n
are_same m n = false

-- two routes end at one node
abbrev pub meet : Way → Way → Bool
meet v w = are_same (node_of v) (node_of w)

-- the indices of the execution there
abbrev pub indices_by : Scene → Way → List Tree
indices_by s (Above q by) = map index_term (replications_at s q)
indices_by s (ByCell c q by) = take (length (replications_at s q)) (items (first c))
indices_by s w = []

abbrev pub end_by : Scene → Way → Option End
end_by s (Above q by) = Some (record { node = q; indices = indices_by s (Above q by) })
end_by s (ByCell c q by) = Some (record { node = q; indices = indices_by s (ByCell c q by) })
end_by s w = None

abbrev pub needed_by : Scene → (k p q atom : ℕ) → (one other : Way) → Needed
needed_by s k p q c v w =
    record { first = p; second = q; atom = c; given = equations_between (indices_by s v) (map (of_second k (replications_at s q)) (indices_by s w)) }

-- an index as the code has it

abbrev pub index_tree : List KindTree → Index → Tree
index_tree trees (Own i) = lone (Leaf i)
index_tree trees (Term n) = tree_at trees n

abbrev pub IsIndexBelow : ℕ → Index → Type 0
IsIndexBelow n (Own i) = Unit {0}
IsIndexBelow n (Term m) = ChildBelow n m
