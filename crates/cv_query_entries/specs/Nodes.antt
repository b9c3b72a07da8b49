-- The only definition of a variable, and the places of an event's nodes, as the code has them.
use Rattle.std.specs.Prelude.{ℕ, if◌then◌else◌, List, [], ◌∷◌, Option, Some, None}
use Rattle.cv_syntax_trees.specs.declared.head.Head.{Head}
use Rattle.cv_scope_rules.specs.Context.{Context}
use Rattle.cv_query_certificates.specs.EventNodes.{is_event_head}

-- the replications above it
abbrev pub rows_above : Option (ℕ × Context) → List (ℕ × ℕ)
rows_above None = []
rows_above (Some d) = d.1.replications

-- the place of a node, where it is of an event
abbrev pub places_here : (event place : ℕ) → Head → List ℕ
places_here f p h = if is_event_head f h then p ∷ [] else []
