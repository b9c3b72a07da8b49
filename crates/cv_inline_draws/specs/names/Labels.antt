-- The label of a node. This profile's own.
use Rattle.std.specs.Prelude.{ℕ, List, [], ◌∷◌}
use Rattle.cv_syntax_trees.specs.declared.head.Head.{Head}
use Rattle.cv_syntax_trees.specs.declared.head.Head.TheVariants.{Find}

abbrev pub label_of : Head → List ℕ
label_of (Find l) = l ∷ []
label_of h = []
