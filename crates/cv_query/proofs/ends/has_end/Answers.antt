use Rattle.std.proofs.Common.{ap₂, sym, ◌∙◌}
use Rattle.cv_query_entries.specs.terms.Given.{put}
use Rattle.cv_query_entries.specs.terms.Parts.{terms_of}
use Rattle.cv_query_parts.specs.Said.{atom_seen, way_seen}
use Rattle.cv_query_parts.specs.Views.{scene_of, trees_of}
use Rattle.cv_query.specs.Claimed.{ends_by}
use Rattle.cv_query.proofs.Claiming.{no_derivation}
use Rattle.cv_query.proofs.ends.has_end.Goals as goal

pub returns-in-Holds : goal.returns-in-Holds
returns-in-Holds c =
    let trees = trees_of c.args.view.now in
    no_derivation ∙ ap₂ (λ a r. ends_by (scene_of c.args.view.now) (put (terms_of trees c.args.given.now)) (atom_seen trees a) (way_seen trees r)) (sym c.in-Event.is) (sym c.in-Holds.is)

pub returns-in-Other : goal.returns-in-Other
returns-in-Other c =
    let trees = trees_of c.args.view.now in
    no_derivation ∙ ap₂ (λ a r. ends_by (scene_of c.args.view.now) (put (terms_of trees c.args.given.now)) (atom_seen trees a) (way_seen trees r)) (sym c.in-Event.is) (sym c.in-Other.is)

pub returns-in-Above-route : goal.returns-in-Above-route
returns-in-Above-route c =
    let trees = trees_of c.args.view.now in
    no_derivation ∙ ap₂ (λ a r. ends_by (scene_of c.args.view.now) (put (terms_of trees c.args.given.now)) (atom_seen trees a) (way_seen trees r)) (sym c.in-Term.is) (sym c.in-Above-route.is)

pub returns-in-Cell-route : goal.returns-in-Cell-route
returns-in-Cell-route c =
    let trees = trees_of c.args.view.now in
    no_derivation ∙ ap₂ (λ a r. ends_by (scene_of c.args.view.now) (put (terms_of trees c.args.given.now)) (atom_seen trees a) (way_seen trees r)) (sym c.in-Term.is) (sym c.in-Cell-route.is)

pub returns-in-Other-route : goal.returns-in-Other-route
returns-in-Other-route c =
    let trees = trees_of c.args.view.now in
    no_derivation ∙ ap₂ (λ a r. ends_by (scene_of c.args.view.now) (put (terms_of trees c.args.given.now)) (atom_seen trees a) (way_seen trees r)) (sym c.in-Term.is) (sym c.in-Other-route.is)
