use Rattle.std.proofs.Common.{◌≡◌, ◌+◌, ◌++◌, ◌≤◌, length, map}
use Rattle.cv_pool.specs.Nodes.{ChildBelow}
use Rattle.cv_syntax.specs.PoolTrees.{tree_at}
use Rattle.cv_syntax.specs.Walks.{above}
use Rattle.cv_scene.specs.Instances.{Matching}
use Rattle.cv_match_terms.specs.patterns.Sites.{site_in}
use Rattle.cv_context.specs.products.Shapes.{calls_from}
use Rattle.cv_context.specs.products.ShapesInCode.{calls_in}
use Rattle.cv_context.proofs.products.shape.calls_from.Given as goal

abbrev pub invariant-functions : goal.invariant-functions
invariant-functions l =
    let trees = l.pool.trees in
    record {
      live : ChildBelow (length trees) l.at;
      few : l.position + above l.at ≤ l.fn.bound;
      same : (M : Matching) → map calls_in l.calls.items ++ calls_from (map (site_in trees M) l.sites) l.position (tree_at trees l.at) ≡ calls_from (map (site_in trees M) l.sites) 0 (tree_at trees l.fn.functions);
    }

abbrev pub decreases-functions : goal.decreases-functions
decreases-functions l = above l.at
