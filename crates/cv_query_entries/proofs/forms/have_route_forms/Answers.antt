use Rattle.std.proofs.Common.{None, ◌∙◌}
use Rattle.cv_syntax.specs.PoolTrees.{tree_at}
use Rattle.cv_syntax.proofs.Trees.{empty_at}
use Rattle.cv_query_parts.specs.Views.{scene_of, trees_of}
use Rattle.cv_query_entries.proofs.Formed.{no_route}
use Rattle.cv_query_entries.proofs.forms.have_route_forms.Goals as goal

pub returns-in_default : goal.returns-in_default
returns-in_default c =
    let trees = trees_of c.args.view.now in
    no_route (scene_of c.args.view.now) c.args.place trees c.args.atoms.now c.atoms.k (tree_at trees c.atoms.at) (record { number = 0; atom = None }) c.atoms-test.true (empty_at trees c.atoms.at c.in_default.is) ∙ c.atoms.invariant.same
