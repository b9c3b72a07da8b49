-- What is made at the end of a list of parts, and the cell of a variable.
use Rattle.std.proofs.Common.{◌≡◌, ℕ, ◌<◌, List, [], ◌∷◌, length, refl, arith, append_assoc, append-nil}
use Rattle.cv_syntax_trees.specs.declared.head.Head.TheVariants.{Leaf, Read}
use Rattle.cv_syntax_trees.specs.Tree.{Empty, Node, lone}
use Rattle.cv_scope_rules.specs.Context.{cell_of, index_terms}

pub cell_none : (rs : List (ℕ × ℕ)) (x : ℕ) → rs ≡ [] → cell_of rs x ≡ lone (Leaf x)
cell_none [] x e = refl
cell_none (r ∷ rs) x e = absurd (cc)

pub cell_some : (rs : List (ℕ × ℕ)) (x : ℕ) → 0 < length rs → cell_of rs x ≡ Node (Read x) (index_terms rs) Empty
cell_some [] x e = absurd (omega arith)
cell_some (r ∷ rs) x e = refl

pub ruleset cells = (cell_none, cell_some)

pub ruleset making = (append_assoc, append-nil)
