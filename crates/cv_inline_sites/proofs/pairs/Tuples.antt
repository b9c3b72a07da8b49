-- The drawn names of indices, and the reads of them.
use Rattle.std.proofs.Common.{◌≡◌, ℕ, suc, List, [], ◌∷◌, refl, ap}
use Rattle.cv_syntax_trees.specs.declared.head.Head.TheVariants as head
use Rattle.cv_syntax_trees.specs.Tree.{Tree, Node}
use Rattle.cv_meaning.specs.contexts.Inlined.{index_reads, read_at}
use Rattle.cv_inline.specs.terms.Stacks.{names_from, tuple_at}

pub tuple_reads : (here : Tree) (name : ℕ → ℕ) (k : ℕ) (rs : List (ℕ × ℕ)) → tuple_at here (names_from name k rs) ≡ index_reads here name k rs
unfolding tuple_at
tuple_reads here name k [] = refl
tuple_reads here name k (r ∷ rs) = ap (λ t. Node head.Cons (read_at (name k) here) t) (tuple_reads here name (suc k) rs)
