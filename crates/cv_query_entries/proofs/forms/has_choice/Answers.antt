use Rattle.std.proofs.Common.{None, Some, length, refl}
use Rattle.cv_syntax.specs.PoolTrees.{tree_at}
use Rattle.cv_query_parts.specs.Alternatives.{atoms_seen}
use Rattle.cv_query_parts.specs.Views.{asked_of, scene_of, trees_of}
use Rattle.cv_query_entries.proofs.Formed.{by_choice, no_choice}
use Rattle.cv_query_entries.proofs.forms.has_choice.Goals as goal

pub have_route_forms-requires-clause-atoms : goal.have_route_forms-requires-clause-atoms
have_route_forms-requires-clause-atoms c = c.in-Some.ensures.live (length (trees_of c.args.view.now)) c.requires.asked.alternatives

pub returns-in-Some : goal.returns-in-Some
returns-in-Some c =
    let trees = trees_of c.args.view.now in
    let atoms = atoms_seen trees c.in-Some.atoms.now in
    by_choice (scene_of c.args.view.now) (asked_of trees c.args.asked.now) c.args.place (tree_at trees c.args.choice) c.choice_of-choice.result.number (Some atoms) c.choice_of-choice.ensures.number (c.in-Some.ensures.atoms trees)
    atoms (tree_at trees c.choice_of-choice.result.routes) c.have_route_forms.result refl c.choice_of-choice.ensures.routes c.have_route_forms.ensures

pub returns-in-None : goal.returns-in-None
returns-in-None c =
    let trees = trees_of c.args.view.now in
    no_choice (scene_of c.args.view.now) (asked_of trees c.args.asked.now) c.args.place (tree_at trees c.args.choice) c.choice_of-choice.result.number None c.choice_of-choice.ensures.number (c.in-None.ensures.atoms trees) refl
