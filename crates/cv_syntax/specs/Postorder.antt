-- A tree as a list: none, or a node behind its two children.
use Rattle.std.specs.Prelude.{◌≡◌, List, [], ◌∷◌, ◌++◌, refl}
use Rattle.std.proofs.Common.{ap, ◌∙◌, append_assoc}
use Rattle.cv_syntax_trees.specs.declared.head.Head.{Head}
use Rattle.cv_syntax.specs.declared.make.Make.{Make}
use Rattle.cv_syntax.specs.declared.make.Make.TheVariants as make
use Rattle.cv_syntax_trees.specs.Tree.{Tree, Empty, Node}

unfoldable pub postorder : Tree → List Make
postorder Empty = make.Nothing ∷ []
postorder (Node h a b) = postorder a ++ (postorder b ++ make.Over h ∷ [])

-- the two newest trees go under a head; where fewer are there, nothing stands in their place
abbrev pub joined : Head → List Tree → List Tree
joined h (b ∷ (a ∷ stack)) = Node h a b ∷ stack
joined h (b ∷ []) = Node h Empty b ∷ []
joined h [] = Node h Empty Empty ∷ []

-- the trees that a list makes on top of those that are there, the newest first
unfoldable pub made : List Tree → List Make → List Tree
made stack [] = stack
made stack (make.Nothing ∷ steps) = made (Empty ∷ stack) steps
made stack (make.Over h ∷ steps) = made (joined h stack) steps

pub made_postorder : (t : Tree) (stack : List Tree) (rest : List Make) → made stack (postorder t ++ rest) ≡ made (t ∷ stack) rest
unfolding postorder made
made_postorder Empty stack rest = refl
made_postorder (Node h a b) stack rest =
    ap (made stack) (append_assoc (postorder a) (postorder b ++ make.Over h ∷ []) rest)
    ∙ (made_postorder a stack ((postorder b ++ make.Over h ∷ []) ++ rest)
    ∙ (ap (made (a ∷ stack)) (append_assoc (postorder b) (make.Over h ∷ []) rest)
    ∙ made_postorder b (a ∷ stack) (make.Over h ∷ rest)))
