use Rattle.std.proofs.Common.{◌≡◌, Some, length, map}
use Rattle.cv_pool.specs.Nodes.{ChildBelow}
use Rattle.cv_syntax.specs.PoolTrees.{tree_at}
use Rattle.cv_syntax.specs.Walks.{above}
use Rattle.cv_meaning.specs.Correspondences.{typed_names}
use Rattle.cv_meaning.specs.contexts.Groups.{function_of}
use Rattle.cv_scene.specs.Instances.{term_for}
use Rattle.cv_scene.specs.Refusals.{are_coins}
use Rattle.cv_match.specs.instances.Matchings.{matching_by}
use Rattle.cv_match_terms.specs.patterns.Sites.{site_in}
use Rattle.cv_match.proofs.coins.are_coins.Given as goal

abbrev pub invariant-list : goal.invariant-list
invariant-list l =
    let trees = l.work.pool.trees in
    let M = matching_by l.work.pool l.work.decls l.search in
    let terms = term_for (function_of (tree_at trees l.site.pattern)).body (tree_at trees (Some l.site.term)) in
    record {
      live : ChildBelow (length trees) l.at;
      same : are_coins M (site_in trees M l.site) (typed_names (tree_at trees l.at)) (map terms (typed_names (tree_at trees l.at))) ≡ are_coins M (site_in trees M l.site) (typed_names (tree_at trees l.fn.list)) (map terms (typed_names (tree_at trees l.fn.list)));
    }

abbrev pub decreases-list : goal.decreases-list
decreases-list l = above l.at
