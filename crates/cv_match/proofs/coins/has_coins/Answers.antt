use Rattle.std.proofs.Common.{Some, ap, map, ◌∙◌}
use Rattle.cv_syntax_trees.specs.Tree.{Tree}
use Rattle.cv_syntax.specs.PoolTrees.{tree_at}
use Rattle.cv_meaning.specs.Correspondences.{typed_names}
use Rattle.cv_meaning.specs.contexts.Groups.{function_of}
use Rattle.cv_scene.specs.Instances.{term_for}
use Rattle.cv_scene.specs.Refusals.{are_coins}
use Rattle.cv_match.specs.instances.Matchings.{matching_by}
use Rattle.cv_match_terms.specs.patterns.Sites.{site_in}
use Rattle.cv_match.proofs.coins.has_coins.Goals as goal

pub returns : goal.returns
returns c =
    let trees = c.args.work.now.pool.trees in
    let M = matching_by c.args.work.now.pool c.args.work.now.decls c.args.search.now in
    let s = c.args.site.now in
    c.are_coins.ensures ∙ ap (λ (t : Tree). are_coins M (site_in trees M s) (typed_names t) (map (term_for (function_of (tree_at trees s.pattern)).body (tree_at trees (Some s.term))) (typed_names t))) c.coins_of.ensures.tree
