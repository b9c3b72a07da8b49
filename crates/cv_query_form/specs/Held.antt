-- What the code reads of a query, part by part.
use Rattle.std.specs.Prelude.{ℕ, ◌+◌, Bool, true, false, ◌&&◌, Option, Some, None, option_map}
use Rattle.cv_syntax_trees.specs.declared.head.Head.{Head}
use Rattle.cv_syntax_trees.specs.declared.head.Head.TheVariants.{Leaf, Cons, Query, Occurs, OccursOnce, Secret, SecretOnce, SomeOf}
use Rattle.cv_syntax_trees.specs.Tree.{Tree, Empty, Node}
use Rattle.cv_syntax_trees.specs.Children.{is_empty}
use Rattle.cv_syntax.specs.NameSets.{is_one_of}
use Rattle.cv_meaning.specs.Binders.{bound_names}
use Rattle.cv_syntax_trees.specs.sites.Sites.{SitesView, Variable}
use Rattle.cv_query_form.specs.Tests.{are_distinct, is_left_event, is_of_type, sides_pass}

-- which names have values, by a table of sites
abbrev pub valued : SitesView → ℕ → Bool
valued sites x = is_of_type (option_map (λ (v : Variable). v.sort) (sites.variable x))

abbrev pub variable_of : Tree → Option ℕ
variable_of (Node (Leaf x) Empty Empty) = Some x
variable_of _ = None

-- the variable that a cell of a list holds
abbrev pub cell_variable : Head → Tree → Option ℕ
cell_variable Cons t = variable_of t
cell_variable h t = None

-- a left event, by its node
abbrev pub event_passes : (ℕ → Bool) → Head → Tree → Tree → Bool
event_passes free (Occurs e) terms b = is_empty b && are_distinct free terms
event_passes free (OccursOnce e) terms b = is_empty b && are_distinct free terms
event_passes free h terms b = false

-- a right side with two parts
abbrev pub has_parts : Head → Bool
has_parts Cons = true
has_parts SomeOf = true
has_parts h = false

-- The alternatives of a right side, part by part: so many apart from what is left of it, and so many for each of what is
-- left. What they are behind a node whose first part gives so many
abbrev pub apart_after : Head → ℕ → ℕ → ℕ
apart_after SomeOf apart first = apart + first
apart_after h apart first = apart

abbrev pub each_after : Head → ℕ → ℕ → ℕ
each_after SomeOf each first = each
each_after h each first = first

-- a correspondence, by its binders and its cell of events
abbrev pub events_pass : Tree → Head → Tree → Tree → Bool
events_pass bs Cons left right = is_left_event (is_one_of (bound_names bs)) left && sides_pass left right
events_pass bs h left right = false

abbrev pub correspondence_passes : Tree → Tree → Bool
correspondence_passes bs Empty = false
correspondence_passes bs (Node h a b) = events_pass bs h a b

abbrev pub secret_passes : (ℕ → Bool) → ℕ → Tree → Tree → Bool
secret_passes valued x a b = (is_empty a && is_empty b) && valued x

-- a query, by its node
abbrev pub node_passes : (ℕ → Bool) → Head → Tree → Tree → Bool
node_passes valued Query a b = correspondence_passes a b
node_passes valued (Secret x) a b = secret_passes valued x a b
node_passes valued (SecretOnce x) a b = secret_passes valued x a b
node_passes valued h a b = false
