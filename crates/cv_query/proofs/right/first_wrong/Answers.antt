use Rattle.std.proofs.Common.{◌∙◌}
use Rattle.cv_syntax.specs.PoolTrees.{tree_at}
use Rattle.cv_syntax.proofs.Trees.{empty_at}
use Rattle.cv_query_certificates.specs.Failures.{is_right}
use Rattle.cv_query_parts.specs.Views.{asked_of, scene_of, trees_of}
use Rattle.cv_query.proofs.Failing.{no_part}
use Rattle.cv_query.proofs.right.first_wrong.Goals as goal

pub returns-in_default : goal.returns-in_default
returns-in_default c =
    let trees = trees_of c.args.view.now in
    no_part (scene_of c.args.view.now) (asked_of trees c.args.asked.now) c.args.places.now c.places.k c.places-test.true is_right (tree_at trees c.places.at) (empty_at trees c.places.at c.in_default.is) ∙ c.places.invariant.same
