use Rattle.std.proofs.Common.{◌≡◌, ◌++◌, ℕ, drop}
use Rattle.cv_syntax_trees.specs.declared.head.Head.TheVariants.{Leaf}
use Rattle.cv_syntax_trees.specs.Tree.{lone}
use Rattle.cv_syntax.proofs.parts.Making.{made}
use Rattle.cv_context.proofs.nodes.cells.push_indices.Given as goal

abbrev pub invariant-indices : goal.invariant-indices
invariant-indices l =
    l.makes.items ++ made (λ (r : ℕ × ℕ). lone (Leaf r.0)) (drop l.k l.replications) ≡ l.fn.makes.items ++ made (λ (r : ℕ × ℕ). lone (Leaf r.0)) l.replications
