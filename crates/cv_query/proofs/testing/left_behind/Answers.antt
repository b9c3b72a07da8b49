use Rattle.cv_syntax.specs.PoolTrees.{tree_at}
use Rattle.cv_query_parts.specs.Views.{trees_of}
use Rattle.cv_query.proofs.Claiming.{left_countable}
use Rattle.cv_query.proofs.testing.left_behind.Goals as goal

pub walk_pairs-requires-clause-few : goal.walk_pairs-requires-clause-few
walk_pairs-requires-clause-few c =
    let trees = trees_of c.args.view.now in
    left_countable c.args.places.now (tree_at trees c.args.parts) (tree_at trees c.behind_entries.result)
    (tree_at trees c.rest_of-rest.result.pairs) c.behind_entries.ensures.tree c.rest_of-rest.ensures.pairs c.requires.few
