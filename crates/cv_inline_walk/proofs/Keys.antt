-- Fine terms of a key are a list.
use Rattle.std.proofs.Common.{ℕ, Bool}
use Rattle.cv_syntax_trees.specs.declared.head.Head.TheVariants.{Cons}
use Rattle.cv_syntax_trees.specs.Tree.{Tree, Empty, Node}
use Rattle.cv_meaning.specs.contexts.KeyTerms.{AreFineKeyTerms}
use Rattle.cv_inline_sites.specs.branches.Moves.{IsList}

pub key_is_list : (is_index plain : ℕ → Bool) (t : Tree) → AreFineKeyTerms is_index plain t → IsList t
unfolding AreFineKeyTerms
key_is_list i p Empty h = tt
key_is_list i p (Node Cons a b) h = key_is_list i p b h.1
key_is_list i p (Node h a b) k = k
