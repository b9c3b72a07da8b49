-- What is made of the trees that a row has read.
use Rattle.std.specs.Prelude.{ℕ, zero, suc, List, [], ◌∷◌, ◌++◌, Option, Some, None, replicate}
use Rattle.cv_syntax_trees.specs.Tree.{Tree, Empty, Node}
use Rattle.cv_syntax_trees.specs.declared.head.Head.{Head}
use Rattle.cv_syntax_trees.specs.declared.head.Head.TheVariants.{Cons}
use Rattle.cv_syntax.specs.declared.make.Make.{Make}
use Rattle.cv_syntax.specs.declared.make.Make.TheVariants as make

-- one tree of all: a list whose end is the last one
abbrev pub single : List Tree → Tree
single [] = Empty
single (t ∷ []) = t
single (t ∷ (u ∷ ts)) = Node Cons t (single (u ∷ ts))

-- a node over the first one and the others
abbrev pub over : Head → List Tree → Tree
over h [] = Node h Empty Empty
over h (t ∷ ts) = Node h t (single ts)

-- the trees of a part that may be missing, of a repeated part, and of one part behind another
abbrev pub perhaps : Option (List Tree) → List Tree
perhaps None = []
perhaps (Some ts) = ts

abbrev pub all_of : List (List Tree) → List Tree
all_of [] = []
all_of (ts ∷ l) = ts ++ all_of l

abbrev pub both_of : List Tree × List Tree → List Tree
both_of p = p.0 ++ p.1

-- what is made behind the parts of so many trees for one tree of all, and for a node over them
abbrev pub single_parts : ℕ → List Make
single_parts zero = make.Nothing ∷ []
single_parts (suc n) = replicate n (make.Over Cons)

abbrev pub over_parts : Head → ℕ → List Make
over_parts h zero = make.Nothing ∷ (make.Nothing ∷ (make.Over h ∷ []))
over_parts h (suc n) = single_parts n ++ make.Over h ∷ []
