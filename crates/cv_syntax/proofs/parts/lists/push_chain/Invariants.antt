use Rattle.std.proofs.Common.{◌≡◌, ◌++◌, drop}
use Rattle.cv_syntax.specs.PoolTrees.{tree_at}
use Rattle.cv_syntax.proofs.parts.Making.{made}
use Rattle.cv_syntax.proofs.parts.lists.push_chain.Given as goal

abbrev pub invariant-terms : goal.invariant-terms
invariant-terms l = l.makes.items ++ made (tree_at l.pool.trees) (drop l.k l.terms) ≡ l.fn.makes.items ++ made (tree_at l.pool.trees) l.terms
