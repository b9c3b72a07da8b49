-- The visits of a run that execute an event. Events are those of Blanchet, CSF 2007.
use Rattle.std.specs.Prelude.{Bool, true, false, List}
use Rattle.std.specs.List.{filter}
use Rattle.cv_syntax_trees.specs.declared.head.Head.TheVariants.{Event}
use Rattle.cv_syntax_trees.specs.Tree.{Tree, Node}
use Rattle.cv_meaning.specs.Serving.{Visit}

abbrev pub is_event : Tree → Bool
is_event (Node (Event e) a b) = true
is_event t = false

abbrev pub event_visits : List Visit → List Visit
event_visits vs = filter (λ (v : Visit). is_event v.tree) vs
