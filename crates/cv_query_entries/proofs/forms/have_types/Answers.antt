use Rattle.std.proofs.Common.{◌∙◌}
use Rattle.cv_syntax.specs.PoolTrees.{tree_at}
use Rattle.cv_syntax.proofs.Trees.{empty_at}
use Rattle.cv_scene.specs.Sights.{sight_at}
use Rattle.cv_query_parts.specs.Views.{scene_of, trees_of}
use Rattle.cv_query_entries.proofs.Formed.{no_witness}
use Rattle.cv_query_entries.proofs.forms.have_types.Goals as goal

pub returns-in_default : goal.returns-in_default
returns-in_default c =
    let trees = trees_of c.args.view.now in
    no_witness (sight_at (scene_of c.args.view.now) c.args.place) c.args.others.now c.variables.k (tree_at trees c.variables.at) c.variables-test.true (empty_at trees c.variables.at c.in_default.is) ∙ c.variables.invariant.same
