use Rattle.std.proofs.Common.{◌≡◌, ◌<◌, ◌^◌, ◌++◌, All, length, map}
use Rattle.cv_pool.specs.Nodes.{ChildBelow}
use Rattle.cv_syntax_trees.specs.Tree.{size}
use Rattle.cv_syntax.specs.PoolTrees.{tree_at}
use Rattle.cv_syntax.specs.Walks.{above}
use Rattle.cv_meaning.specs.contexts.Groups.{functions_of}
use Rattle.cv_inline_draws.specs.callings.RightFunctions.{AreNodes, IsLiveFunction, function_in}
use Rattle.cv_inline_draws.proofs.callings.functions.functions_in.Given as goal

abbrev pub invariant-list : goal.invariant-list
invariant-list l = record {
  live : ChildBelow (length l.pool.trees) l.at;
  fits : size (tree_at l.pool.trees l.at) < 2 ^ 32;
  nodes : AreNodes (tree_at l.pool.trees l.at);
  functions : map (function_in l.pool.trees) l.functions.items ++ functions_of (tree_at l.pool.trees l.at) ≡ functions_of (tree_at l.pool.trees l.fn.list);
  alive : All (IsLiveFunction l.pool.trees) l.functions.items;
}

abbrev pub decreases-list : goal.decreases-list
decreases-list l = above l.at
