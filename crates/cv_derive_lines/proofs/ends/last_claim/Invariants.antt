use Rattle.std.proofs.Common.{◌≡◌, length}
use Rattle.std.specs.Prelude.{IfSome, option_map}
use Rattle.cv_pool.specs.Nodes.{ChildBelow}
use Rattle.cv_syntax.specs.PoolTrees.{tree_at}
use Rattle.cv_syntax.specs.Walks.{above}
use Rattle.cv_scene.specs.lines.Lines.{lines_of, statements}
use Rattle.cv_derive_lines.specs.Lasts.{last_behind, last_of}
use Rattle.cv_derive_lines.specs.Views.{IsClaimBelow, statement_of}
use Rattle.cv_derive_lines.proofs.ends.last_claim.Given as goal

abbrev pub invariant-lines : goal.invariant-lines
invariant-lines l = record {
  live : ChildBelow (length l.pool.trees) l.at;
  claim : IfSome l.last (IsClaimBelow (length l.pool.trees));
  same : last_behind (option_map (statement_of l.pool.trees) l.last) (statements (lines_of (tree_at l.pool.trees l.at))) ≡ last_of (statements (lines_of (tree_at l.pool.trees l.fn.lines)));
}

abbrev pub decreases-lines : goal.decreases-lines
decreases-lines l = above l.at
