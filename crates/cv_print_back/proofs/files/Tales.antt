-- The uses of names that pieces of a text tell, in front of others, and the variables that a tree defines.
use Rattle.std.proofs.Common.{◌≡◌, ℕ, List, [], ◌∷◌, ◌++◌, refl, ap}
use Rattle.cv_syntax_trees.specs.declared.head.Head.{Head}
use Rattle.cv_syntax_trees.specs.declared.head.Head.TheVariants.{New, Let, Binder}
use Rattle.cv_syntax_trees.specs.Tree.{Tree, Empty, Node}
use Rattle.cv_parse_grammar.specs.Names.{Uses}
use Rattle.cv_print_bytes.specs.terminals.Told.{Piece, Shown, Told}
use Rattle.cv_print_back.proofs.files.Passing.{use_of}

unfoldable pub told_by : List Piece → Uses → Uses
told_by [] us = us
told_by (Shown s ∷ ps) us = told_by ps us
told_by (Told r x ∷ ps) us = use_of r x ∷ told_by ps us

pub told_append : (ps qs : List Piece) (us : Uses) → told_by (ps ++ qs) us ≡ told_by ps (told_by qs us)
unfolding told_by
told_append [] qs us = refl
told_append (Shown s ∷ ps) qs us = told_append ps qs us
told_append (Told r x ∷ ps) qs us = ap (λ l. use_of r x ∷ l) (told_append ps qs us)

-- the variables that are defined in a tree, in order, in front of others

abbrev pub defined_by : Head → List ℕ → List ℕ
defined_by (New x T) l = x ∷ l
defined_by (Let x T) l = x ∷ l
defined_by (Binder x T) l = x ∷ l
defined_by h l = l

unfoldable pub definitions : Tree → List ℕ → List ℕ
definitions Empty l = l
definitions (Node h a b) l = defined_by h (definitions a (definitions b l))
