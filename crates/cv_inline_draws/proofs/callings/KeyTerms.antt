-- The index terms of keys.
use Rattle.std.proofs.Common.{ℕ, Bool}
use Rattle.cv_syntax_trees.specs.declared.head.Head.TheVariants.{Cons}
use Rattle.cv_syntax_trees.specs.Tree.{Tree, Empty, Node}
use Rattle.cv_meaning.specs.contexts.KeyTerms.{AreFineKeyTerms}
use Rattle.cv_inline_sites.specs.branches.Moves.{IsList}

pub lists : (is_index plain : ℕ → Bool) (terms : Tree) → AreFineKeyTerms is_index plain terms → IsList terms
unfolding AreFineKeyTerms
lists i p Empty fine = tt
lists i p (Node Cons a b) fine = lists i p b fine.1
lists i p (Node h a b) fine = absurd fine
