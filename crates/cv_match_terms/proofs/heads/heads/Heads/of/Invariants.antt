use Rattle.std.proofs.Common.{◌≡◌, length}
use Rattle.std.specs.Prelude.{◌||◌}
use Rattle.std.specs.List.{list_any}
use Rattle.cv_pool.specs.Nodes.{ChildBelow}
use Rattle.cv_syntax_trees.specs.declared.head.Head.{Head}
use Rattle.cv_syntax.specs.PoolTrees.{tree_at}
use Rattle.cv_syntax.specs.Walks.{above}
use Rattle.cv_meaning.specs.contexts.Groups.{functions_of}
use Rattle.cv_match_terms.specs.heads.Beginnings.{begins, may_begin}
use Rattle.cv_match_terms.proofs.heads.heads.Heads.of.Given as goal

abbrev pub invariant-functions : goal.invariant-functions
invariant-functions l = record {
  live : ChildBelow (length l.pool.trees) l.at;
  same : (k : Head) → (may_begin l.heads k || list_any (begins k) (functions_of (tree_at l.pool.trees l.at))) ≡ list_any (begins k) (functions_of (tree_at l.pool.trees l.fn.functions));
}

abbrev pub decreases-functions : goal.decreases-functions
decreases-functions l = above l.at
