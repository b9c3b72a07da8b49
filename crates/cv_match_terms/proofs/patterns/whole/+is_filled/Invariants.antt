use Rattle.std.proofs.Common.{◌≡◌, ◌≤◌, length}
use Rattle.cv_pool.specs.Nodes.{ChildBelow}
use Rattle.cv_syntax_trees.specs.Tree.{same_tree}
use Rattle.cv_syntax.specs.PoolTrees.{tree_at}
use Rattle.cv_syntax.specs.Walks.{above}
use Rattle.cv_meaning.specs.contexts.Groups.{function_of, group_of}
use Rattle.cv_match_terms.specs.patterns.Searches.{filled_part}
use Rattle.cv_match_terms.proofs.patterns.whole.+is_filled.Given as goal

abbrev pub decreases-is_filled : goal.decreases-is_filled
decreases-is_filled l = above l.body

abbrev pub invariant-body : goal.invariant-body
invariant-body l =
    let trees = l.pool.trees in
    record {
      live : ChildBelow (length trees) l.at;
      there : ChildBelow (length trees) l.there;
      less : above l.at ≤ above l.fn.body;
      same : same_tree (filled_part (group_of (tree_at trees l.side)) (function_of (tree_at trees l.f)) (tree_at trees l.whole) (tree_at trees l.at)) (tree_at trees l.there)
          ≡ same_tree (filled_part (group_of (tree_at trees l.side)) (function_of (tree_at trees l.f)) (tree_at trees l.whole) (tree_at trees l.fn.body)) (tree_at trees l.fn.term);
    }

abbrev pub decreases-body : goal.decreases-body
decreases-body l = above l.at
