-- What is assigned wherever a `defined` list is looked at. This profile's own.
use Rattle.std.specs.Prelude.{◌≡◌, ℕ, true, List, is_some}
use Rattle.cv_syntax_trees.specs.declared.head.Head.TheVariants.{Find}
use Rattle.cv_syntax_trees.specs.Tree.{Tree, Node}
use Rattle.cv_meaning.specs.Memory.{Local}
use Rattle.cv_meaning.specs.Serving.{Visit}

-- at a `find`, wherever the first variable is assigned, the second one is
abbrev pub AssignsAfterAt : (x y : ℕ) → Tree → Local → Type 0
AssignsAfterAt x y (Node (Find l) a b) s = (w : List ℕ) → is_some (s.memory.store x w) ≡ true → is_some (s.memory.store y w) ≡ true
AssignsAfterAt x y t s = Unit {0}

abbrev pub AssignsAfter : (x y : ℕ) → Visit → Type 0
AssignsAfter x y v = AssignsAfterAt x y v.tree v.before

-- and the other way round
abbrev pub AreAssignedTogether : (x y : ℕ) → Visit → Type 0
AreAssignedTogether x y v = AssignsAfter x y v × AssignsAfter y x v
