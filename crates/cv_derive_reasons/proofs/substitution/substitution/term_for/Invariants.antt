use Rattle.std.proofs.Common.{◌≡◌, length, drop}
use Rattle.cv_pool.specs.Nodes.{ChildBelow}
use Rattle.cv_syntax.specs.PoolTrees.{tree_at}
use Rattle.cv_scene.specs.lines.Given.{term_for}
use Rattle.cv_derive_reasons.specs.substitution.Under.{names_of}
use Rattle.cv_derive_reasons.proofs.substitution.substitution.term_for.Given as goal

abbrev pub invariant-names : goal.invariant-names
invariant-names l = record {
  live : ChildBelow (length l.pool.trees) l.at;
  rest : term_for (names_of (drop l.k l.names)) (tree_at l.pool.trees l.at) l.x ≡ term_for (names_of l.names) (tree_at l.pool.trees l.fn.terms) l.x;
}
