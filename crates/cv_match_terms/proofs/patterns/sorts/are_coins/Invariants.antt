use Rattle.std.proofs.Common.{◌≡◌, length, map}
use Rattle.cv_pool.specs.Nodes.{ChildBelow}
use Rattle.cv_syntax.specs.PoolTrees.{tree_at}
use Rattle.cv_syntax.specs.Walks.{above}
use Rattle.cv_meaning.specs.Correspondences.{typed_names}
use Rattle.cv_meaning.specs.contexts.Groups.{function_of}
use Rattle.cv_scene.specs.Instances.{are_of_types, term_for}
use Rattle.cv_match_terms.specs.patterns.Searches.{may_be_coin, signature_by}
use Rattle.cv_match_terms.proofs.patterns.sorts.are_coins.Given as goal

abbrev pub invariant-list : goal.invariant-list
invariant-list l =
    let trees = l.work.pool.trees in
    let may_be = may_be_coin (signature_by l.work.pool l.work.decls l.search) in
    let terms = term_for (function_of (tree_at trees l.f)).body (tree_at trees l.term) in
    record {
      live : ChildBelow (length trees) l.at;
      same : are_of_types may_be (typed_names (tree_at trees l.at)) (map terms (typed_names (tree_at trees l.at))) ≡ are_of_types may_be (typed_names (tree_at trees l.fn.list)) (map terms (typed_names (tree_at trees l.fn.list)));
    }

abbrev pub decreases-list : goal.decreases-list
decreases-list l = above l.at
