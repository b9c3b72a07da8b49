-- In which body of an `if` or a `find` a place lies, and which one a visit takes. Blanchet, TDSC 2008, section 2, for both; the
-- numbers of bodies are this profile's own.
use Rattle.std.specs.Prelude.{ℕ, zero, suc, ◌+◌, ◌<◌, ◌≤◌, [], Option, Some, None}
use Rattle.cv_syntax_trees.specs.declared.head.Head.{Head}
use Rattle.cv_syntax_trees.specs.declared.head.Head.TheVariants.{If, Find, Cons}
use Rattle.cv_syntax_trees.specs.Tree.{Tree, Empty, Node, size, first_place, second_place}
use Rattle.cv_meaning.specs.Interpretation.{Setting}
use Rattle.cv_meaning.specs.Memory.{Local}
use Rattle.cv_meaning.specs.Serving.{Turn, First, Second, Visit, step}
use Rattle.cv_meaning.specs.Tapes.{Tape}

-- a place lies in the element with this number of a list that stands at a place
abbrev pub LiesInElement : (list : Tree) → (place number : ℕ) → ℕ → Type 0
LiesInElement (Node Cons a b) p zero q = (first_place p Cons ≤ q) × (q < first_place p Cons + size a)
LiesInElement (Node Cons a b) p (suc k) q = LiesInElement b (second_place p Cons a) k q
LiesInElement t p k q = ⊥

-- So it does in a body of the node that stands at a place: those of an `if` have the numbers 0 and 1; of a `find` the else body has
-- the number 0, and the branches have the numbers from 1 on.
abbrev pub LiesInBody : Tree → (place number : ℕ) → ℕ → Type 0
LiesInBody (Node If a bodies) p k q = LiesInElement bodies (second_place p If a) k q
LiesInBody (Node (Find l) branches b) p zero q = (second_place p (Find l) branches ≤ q) × (q < second_place p (Find l) branches + size b)
LiesInBody (Node (Find l) branches b) p (suc k) q = LiesInElement branches (first_place p (Find l)) k q
LiesInBody t p k q = ⊥

-- the body into which an `if` or a `find` goes on
abbrev pub body_of_turn : Head → Turn → Option ℕ
body_of_turn If (Second k vs s) = Some k
body_of_turn (Find l) (Second k vs s) = Some zero
body_of_turn (Find l) (First k vs s) = Some (suc k)
body_of_turn h x = None

abbrev pub body_at : Setting → Tape → Tree → (place : ℕ) → Local → Option ℕ
body_at g t Empty p s = None
body_at g t (Node h a b) p s = body_of_turn h (step g t h a b p 0 [] s)

-- the body that a visit takes
abbrev pub body_taken : Setting → Tape → Visit → Option ℕ
body_taken g t v = body_at g t v.tree v.place v.before
