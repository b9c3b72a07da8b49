-- Where the visits and the inputs of a run stand in the game. This profile's own.
use Rattle.std.specs.Prelude.{◌≡◌, ℕ, Some}
use Rattle.cv_syntax_trees.specs.declared.head.Head.{Head}
use Rattle.cv_syntax_trees.specs.declared.head.Head.TheVariants.{In}
use Rattle.cv_syntax.specs.Layouts.{IsSyntax}
use Rattle.cv_syntax_trees.specs.Tree.{Tree, Node, subtree, first_place, second_place}
use Rattle.cv_meaning.specs.Inputs.{Input}
use Rattle.cv_meaning.specs.Serving.{Visit}

-- what holds of a node at its place holds of its two children at theirs
abbrev pub IsPassedDown : (ℕ → Tree → Type 0) → Type 0
IsPassedDown P = (p : ℕ) (h : Head) (a b : Tree) → P p (Node h a b) → P (first_place p h) a × P (second_place p h a) b

-- the tree is of an input on the channel
abbrev pub IsInputOn : ℕ → Tree → Type 0
IsInputOn c (Node (In d) a b) = d ≡ c
IsInputOn c b = ⊥

-- an input has its channel, and the fact holds of its tree at its place
abbrev pub InputHas : (ℕ → Tree → Type 0) → Input → Type 0
InputHas P i = IsInputOn i.channel i.tree × P i.place i.tree

-- the fact holds of the tree of a visit at its place
abbrev pub VisitHas : (ℕ → Tree → Type 0) → Visit → Type 0
VisitHas P v = P v.place v.tree

-- the subtree of the game at the place
abbrev pub IsSubtree : Tree → ℕ → Tree → Type 0
IsSubtree game p b = subtree game p ≡ Some b

-- the same, where the tree is no list of bodies
abbrev pub IsSubtreeOrList : Tree → ℕ → Tree → Type 0
IsSubtreeOrList game p b = IsSyntax b → IsSubtree game p b
