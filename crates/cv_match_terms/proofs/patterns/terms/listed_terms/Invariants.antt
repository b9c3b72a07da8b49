use Rattle.std.proofs.Common.{◌≡◌, ℕ, ◌++◌, length, map}
use Rattle.std.specs.List.{All}
use Rattle.cv_pool.specs.Nodes.{ChildBelow}
use Rattle.cv_syntax_trees.specs.Tree.{Tree}
use Rattle.cv_syntax.specs.PoolTrees.{tree_at}
use Rattle.cv_syntax.specs.Walks.{above}
use Rattle.cv_meaning.specs.Correspondences.{typed_names}
use Rattle.cv_meaning.specs.contexts.Groups.{function_of}
use Rattle.cv_scene.specs.Instances.{term_for}
use Rattle.cv_match_terms.proofs.patterns.terms.listed_terms.Given as goal

abbrev pub invariant-list : goal.invariant-list
invariant-list l =
    let trees = l.pool.trees in
    let terms : ℕ × ℕ → Tree = term_for (function_of (tree_at trees l.f)).body (tree_at trees l.term) in
    record {
      live : ChildBelow (length trees) l.at;
      nodes : All (ChildBelow (length trees)) l.terms.items;
      same : map (tree_at trees) l.terms.items ++ map terms (typed_names (tree_at trees l.at)) ≡ map terms (typed_names (tree_at trees l.fn.list));
    }

abbrev pub decreases-list : goal.decreases-list
decreases-list l = above l.at
