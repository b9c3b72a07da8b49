use Rattle.std.proofs.Common.{◌≡◌, ◌++◌, All, length, map}
use Rattle.cv_pool.specs.Nodes.{ChildBelow}
use Rattle.cv_syntax.specs.PoolTrees.{tree_at}
use Rattle.cv_syntax.specs.Walks.{above}
use Rattle.cv_derive_lines.specs.Views.{IsClaimBelow, statement_of}
use Rattle.cv_scene.specs.lines.Lines.{lines_of, statements}
use Rattle.cv_rule_pick.proofs.targets.claims.Given as goal

abbrev pub invariant-lines : goal.invariant-lines
invariant-lines l = record {
  live : ChildBelow (length l.pool.trees) l.at;
  below : All (IsClaimBelow (length l.pool.trees)) l.claims.items;
  said : map (statement_of l.pool.trees) l.claims.items ++ statements (lines_of (tree_at l.pool.trees l.at)) ≡ statements (lines_of (tree_at l.pool.trees l.fn.lines));
}

abbrev pub decreases-lines : goal.decreases-lines
decreases-lines l = above l.at
