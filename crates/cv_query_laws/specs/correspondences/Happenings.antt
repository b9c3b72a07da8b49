-- The events that the visits of a run execute. Events are those of Blanchet, CSF 2007.
use Rattle.std.specs.Prelude.{List, [], ◌∷◌, flat_map}
use Rattle.cv_syntax_trees.specs.declared.head.Head.TheVariants.{Event}
use Rattle.cv_syntax_trees.specs.Tree.{Tree, Node}
use Rattle.cv_meaning.specs.Interpretation.{Setting}
use Rattle.cv_meaning.specs.Memory.{Happened, Local}
use Rattle.cv_meaning.specs.Serving.{Visit}
use Rattle.cv_meaning.specs.Terms.{values_here}

-- the visit of an event's node executes the event, with the values of its arguments
abbrev pub happening : Setting → Tree → Local → List Happened
happening g (Node (Event e) a b) s = record { event = e; values = values_here g s a } ∷ []
happening g t s = []

abbrev pub happening_at : Setting → Visit → List Happened
happening_at g v = happening g v.tree v.before

abbrev pub happenings : Setting → List Visit → List Happened
happenings g vs = flat_map (happening_at g) vs
