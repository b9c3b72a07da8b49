-- The cells that a service consults. This profile's own.
use Rattle.std.specs.Prelude.{◌≡◌, ℕ, Bool, true, false, List, [], ◌∷◌, ◌++◌}
use Rattle.cv_syntax_trees.specs.declared.head.Head.{Head}
use Rattle.cv_syntax_trees.specs.declared.head.Head.TheVariants.{New, Find, Call}
use Rattle.cv_syntax_trees.specs.Tree.{Tree, Empty, Node}
use Rattle.cv_meaning.specs.Tapes.{cells_of, is_in, Cell, New_at, Find_at, Key_at}
use Rattle.cv_meaning.specs.Interpretation.{Setting}
use Rattle.cv_meaning.specs.Memory.{Local, tuple}
use Rattle.cv_meaning.specs.Serving.{Visit, oracle_call}

-- the cells of a construct with this list of terms; those of a call are the key's and the call's own
abbrev pub consulted_by : Setting → Head → Tree → Local → List Cell
consulted_by g (New x T) a s = New_at x (tuple s.indices) ∷ []
consulted_by g (Find l) a s = Find_at l (tuple s.indices) ∷ []
consulted_by g (Call x l) a s = let call = oracle_call g s l a in Key_at call.key ∷ cells_of (g.side.cells call.number)
consulted_by g _ a s = []

abbrev pub consulted_at : Setting → Tree → Local → List Cell
consulted_at g Empty s = []
consulted_at g (Node h a b) s = consulted_by g h a s

-- the cells of the visits, in order
unfoldable pub consulted : Setting → List Visit → List Cell
consulted g [] = []
consulted g (v ∷ vs) = consulted_at g v.tree v.before ++ consulted g vs

abbrev pub is_key : Cell → Bool
is_key (Key_at key) = true
is_key c = false

-- the cell is in the list, or is a key's: that a call has an assigned key is a matter of scope
abbrev pub IsListed : List (Cell × ℕ) → Cell → Type 0
IsListed cs c = is_key c ≡ false → is_in cs c ≡ true
