use Rattle.cv_scope_rules.specs.Context.{nothing_known}
use Rattle.cv_scope_rules.specs.Phrases.{Inputs}
use Rattle.cv_scope_rules.specs.declared.position.Position.TheVariants.{Anywhere}
use Rattle.cv_settling_rules.proofs.Listing.{are_spots, places-spots_in}
use Rattle.cv_settling_rules.proofs.spots_are_places.Goals as goal

pub returns-clause-places : goal.returns-clause-places
returns-clause-places c = places-spots_in Inputs Anywhere nothing_known 0

pub returns-clause-nodes : goal.returns-clause-nodes
returns-clause-nodes c = are_spots
