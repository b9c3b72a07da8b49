use Rattle.std.proofs.Common.{◌≡◌, length, drop}
use Rattle.cv_pool.specs.Nodes.{ChildBelow}
use Rattle.cv_syntax.specs.PoolTrees.{tree_at}
use Rattle.cv_scene.specs.lines.Given.{term_for}
use Rattle.cv_query_entries.specs.terms.Given.{names_in}
use Rattle.cv_query_entries.proofs.terms.given.other_term.Given as goal

abbrev pub invariant-names : goal.invariant-names
invariant-names l = record {
  live : ChildBelow (length l.pool.trees) l.at;
  rest : term_for (names_in (drop l.k l.others)) (tree_at l.pool.trees l.at) l.x ≡ term_for (names_in l.others) (tree_at l.pool.trees l.fn.terms) l.x;
}
