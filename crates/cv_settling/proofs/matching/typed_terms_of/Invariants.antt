use Rattle.std.proofs.Common.{◌≡◌, ◌++◌, Some, option_map}
use Rattle.cv_syntax_trees.specs.Tree.{bound_names}
use Rattle.cv_syntax.specs.PoolTrees.{tree_at}
use Rattle.cv_syntax.specs.Walks.{above}
use Rattle.cv_scene.specs.Scenes.{Scene}
use Rattle.cv_settling.specs.Instances.{typed_terms}
use Rattle.cv_settling.specs.Putting.{names_of, terms_of}
use Rattle.cv_settling.specs.Seen.{IsTableOf}
use Rattle.cv_settling.proofs.matching.typed_terms_of.Given as goal

abbrev pub invariant-binders : goal.invariant-binders
invariant-binders l =
    let trees = l.table.pool.now.trees in
    let left = tree_at trees l.equation.left in
    let term = tree_at trees (Some l.term) in
    record {
      terms : (s : Scene) → IsTableOf s l.table → option_map (λ ns. terms_of trees l.given.items ++ ns) (typed_terms s (tree_at trees l.at) left term) ≡ typed_terms s (tree_at trees l.equation.binders) left term;
      names : names_of l.given.items ++ bound_names (tree_at trees l.at) ≡ bound_names (tree_at trees l.equation.binders);
    }

abbrev pub decreases-binders : goal.decreases-binders
decreases-binders l = above l.at
