use Rattle.std.proofs.Common.{refl, ap, length, ◌∙◌}
use Rattle.std.specs.List.{list_all}
use Rattle.cv_syntax.specs.PoolTrees.{tree_at}
use Rattle.cv_query_certificates.specs.Claims.{claims_of}
use Rattle.cv_query_certificates.specs.Failures.{has_end}
use Rattle.cv_query_parts.specs.Alternatives.{atoms_seen}
use Rattle.cv_query_parts.specs.Said.{saying_seen}
use Rattle.cv_query_parts.specs.Views.{asked_of, scene_of, trees_of}
use Rattle.cv_query.proofs.Claiming.{form_many, never_claims, never_end, put_of, with_claims}
use Rattle.cv_query.proofs.ends.has_ends.Goals as goal

pub returns-in-Never : goal.returns-in-Never
returns-in-Never c =
    let s = scene_of c.args.view.now in
    let trees = trees_of c.args.view.now in
    never_claims (has_end s c.args.place) s (asked_of trees c.args.asked.now) c.args.place (tree_at trees c.args.part) (saying_seen trees c.entry_of.result) c.entry_of.ensures.saying (tree_at trees c.in-Never.place) (tree_at trees c.in-Never.by) c.ends_with_falsity.result (ap (saying_seen trees) c.in-Never.is) (c.ends_with_falsity.ensures ∙ never_end s c.args.place (tree_at trees c.in-Never.by))

pub have_ends-requires-clause-atoms : goal.have_ends-requires-clause-atoms
have_ends-requires-clause-atoms c = c.chosen_atoms-atoms.ensures.live (length (trees_of c.args.view.now)) c.requires.asked.alternatives

pub returns-in_ok-ends-in-With : goal.returns-in_ok-ends-in-With
returns-in_ok-ends-in-With c =
    let s = scene_of c.args.view.now in
    let trees = trees_of c.args.view.now in
    let q = asked_of trees c.args.asked.now in
    let x = saying_seen trees c.entry_of.result in
    let f = ap (saying_seen trees) c.in-With.is in
    let atoms = atoms_seen trees c.chosen_atoms-atoms.result.now in
    let routes = tree_at trees c.choice_of-choice.result.routes in
    let m = form_many s q c.args.place (tree_at trees c.args.part) (tree_at trees c.in-With.place) (tree_at trees c.in-With.witnesses) (tree_at trees c.in-With.choice) x c.entry_of.ensures.saying f c.requires.formed in
    with_claims (has_end s c.args.place) s q c.args.place (tree_at trees c.args.part) x c.entry_of.ensures.saying (tree_at trees c.in-With.place) (tree_at trees c.in-With.witnesses) (tree_at trees c.in-With.choice) c.choice_of-choice.result.number atoms routes c.in_ok-ends-in-With.ends f c.choice_of-choice.ensures.number (c.chosen_atoms-atoms.ensures.atoms trees) c.choice_of-choice.ensures.routes
    (c.in_ok-ends-in-With.ensures c.args.place
    ∙ ap (λ g. list_all (has_end s c.args.place) (claims_of s g atoms routes))
    (put_of trees (record { variables = c.args.asked.now.variables; arguments = c.arguments_at.result; others = c.args.asked.now.others; terms = c.in-With.witnesses }) s q c.args.place (tree_at trees c.in-With.witnesses) refl c.arguments_at.ensures.tree refl refl m))
