use Rattle.std.proofs.Common.{◌≡◌, ◌+◌, ◌≤◌, length}
use Rattle.cv_pool.specs.Nodes.{ChildBelow}
use Rattle.cv_syntax_trees.specs.Tree.{size}
use Rattle.cv_syntax.specs.PoolTrees.{tree_at}
use Rattle.cv_syntax.specs.Walks.{above}
use Rattle.cv_meaning.specs.contexts.Groups.{function_of}
use Rattle.cv_scene.specs.Refusals.{first_in_arguments}
use Rattle.cv_match.proofs.reads.arguments.+argument_use.Given as goal

abbrev pub decreases-argument_use : goal.decreases-argument_use
decreases-argument_use l = above l.body

abbrev pub invariant-body : goal.invariant-body
invariant-body l =
    let trees = l.pool.trees in
    let xs = (function_of (tree_at trees l.f)).arguments in
    record {
      live : ChildBelow (length trees) l.at;
      there : ChildBelow (length trees) l.there;
      less : above l.at ≤ above l.fn.body;
      sum : l.place + size (tree_at trees l.there) ≡ l.fn.from + size (tree_at trees l.fn.term);
      same : first_in_arguments l.x xs (tree_at trees l.at) l.place (tree_at trees l.there) ≡ first_in_arguments l.x xs (tree_at trees l.fn.body) l.fn.from (tree_at trees l.fn.term);
    }

abbrev pub decreases-body : goal.decreases-body
decreases-body l = above l.at
