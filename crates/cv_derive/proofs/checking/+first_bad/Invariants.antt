use Rattle.std.proofs.Common.{◌≡◌, ◌≤◌, length}
use Rattle.cv_pool.specs.Nodes.{ChildBelow}
use Rattle.cv_syntax.specs.PoolTrees.{tree_at}
use Rattle.cv_syntax.specs.Walks.{above}
use Rattle.cv_scene.specs.lines.Lines.{lines_of}
use Rattle.cv_derive_lines.specs.citing.Bookmarks.{Serves}
use Rattle.cv_derive.specs.Searching.{first_bad_in}
use Rattle.cv_derive.specs.Seen.{assumed_of, sight_of, trees_of}
use Rattle.cv_derive.proofs.checking.+first_bad.Given as goal

abbrev pub decreases-first_bad : goal.decreases-first_bad
decreases-first_bad l = above l.lines

abbrev pub invariant-lines : goal.invariant-lines
invariant-lines l = record {
  live : ChildBelow (length (trees_of l.s)) l.at;
  less : above l.at ≤ above l.fn.lines;
  serves : Serves (trees_of l.s) (lines_of (tree_at (trees_of l.s) l.s.lines)) l.kept l.n (lines_of (tree_at (trees_of l.s) l.at));
  same : first_bad_in (lines_of (tree_at (trees_of l.s) l.s.lines)) (sight_of l.s) (assumed_of (trees_of l.s) l.fn.assumed) l.n (lines_of (tree_at (trees_of l.s) l.at)) ≡ first_bad_in (lines_of (tree_at (trees_of l.s) l.s.lines)) (sight_of l.s) (assumed_of (trees_of l.s) l.fn.assumed) l.fn.start (lines_of (tree_at (trees_of l.s) l.fn.lines));
}

abbrev pub decreases-lines : goal.decreases-lines
decreases-lines l = above l.at
