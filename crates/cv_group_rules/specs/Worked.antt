-- Worked equivalences.
-- Names are numbers: 20 to 29 are functions with their indices and bounds, 30 is a key, 31 to 35 are variables, 36 and 37 are
-- indices of finds. 40 and 41 are functions, 6 is a constant, 42 is nothing that is declared.
use Rattle.std.specs.Prelude.{ℕ, ◌==◌, ◌||◌, List, [], ◌∷◌}
use Rattle.cv_syntax_trees.specs.declared.head.Head.TheVariants.{Let, Yes, No, Bound}
use Rattle.cv_syntax_trees.specs.Tree.{Tree, Node, lone}
use Rattle.cv_syntax_trees.specs.Builders.{leaf, branch, find}
use Rattle.cv_group_rules.specs.Symbols.{Symbols}
use Rattle.cv_meaning.specs.contexts.Worked.{apply, equivalence, group, oracle}

abbrev pub file_symbols : Symbols
file_symbols = record { constant = λ x. x == 6; function = λ f. (f == 6) || ((f == 40) || (f == 41)) }

-- 22: !23<=24 (31: 5) -> body
abbrev pub putting : Tree → Tree
putting body = oracle 22 (Bound 23 24) [] ((31, 5) ∷ []) body

-- 25: !26<=27 (32: 5) -> body
abbrev pub getting : Tree → Tree
getting body = oracle 25 (Bound 26 27) [] ((32, 5) ∷ []) body

-- the left bodies read the key and the argument
abbrev pub sealed : ℕ → Tree
sealed x = apply 40 (leaf x ∷ leaf 30 ∷ [])

-- both functions on the left; on the right these bodies
abbrev pub replaced : (put got : Tree) → Tree
replaced put got = equivalence (group (putting (sealed 31) ∷ getting (sealed 32) ∷ [])) (group (putting put ∷ getting got ∷ []))

-- find 36<=24 suchthat defined(cells) && condition then body else false
abbrev pub search : List Tree → Tree → Tree → Tree
search cells condition body = find 1 (branch ((36, 24) ∷ []) cells condition body ∷ []) (lone No)

-- a body that defines 33 by `let`, and then goes on
abbrev pub defining : Tree → Tree
defining rest = Node (Let 33 0) (lone Yes) rest

-- a call of what nothing declares
abbrev pub undeclared : Tree → Tree
undeclared m = apply 42 (m ∷ [])

-- one function alone on the left, and on the right
abbrev pub alone : Tree → Tree → Tree
alone left right = equivalence (group (left ∷ [])) (group (right ∷ []))
