use Rattle.std.proofs.Common.{ap, length}
use Rattle.cv_syntax.specs.PoolTrees.{tree_at}
use Rattle.cv_query_certificates.specs.Claims.{at_place}
use Rattle.cv_query_certificates.specs.Failures.{is_right}
use Rattle.cv_query_parts.specs.Alternatives.{atoms_seen}
use Rattle.cv_query_parts.specs.Said.{saying_seen}
use Rattle.cv_query_parts.specs.Views.{asked_of, scene_of, trees_of}
use Rattle.cv_query.proofs.Claiming.{with_claims}
use Rattle.cv_query.proofs.right.has_right_lines.Goals as goal

pub are_right-requires-clause-atoms : goal.are_right-requires-clause-atoms
are_right-requires-clause-atoms c = c.chosen_atoms-atoms.ensures.live (length (trees_of c.args.view.now)) c.requires.asked.alternatives

pub returns-in-With : goal.returns-in-With
returns-in-With c =
    let s = scene_of c.args.view.now in
    let trees = trees_of c.args.view.now in
    let q = asked_of trees c.args.asked.now in
    with_claims (is_right s c.args.place) s q c.args.place (tree_at trees c.args.part) (saying_seen trees c.entry_of.result) c.entry_of.ensures.saying (tree_at trees c.in-With.place) (tree_at trees c.in-With.witnesses) (tree_at trees c.in-With.choice) c.choice_of-choice.result.number (atoms_seen trees c.chosen_atoms-atoms.result.now) (tree_at trees c.choice_of-choice.result.routes) c.are_right.result
    (ap (saying_seen trees) c.in-With.is) c.choice_of-choice.ensures.number (c.chosen_atoms-atoms.ensures.atoms trees) c.choice_of-choice.ensures.routes (c.are_right.ensures (at_place s q c.args.place (tree_at trees c.in-With.witnesses)))
