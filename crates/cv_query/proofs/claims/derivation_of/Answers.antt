use Rattle.std.proofs.Common.{ap₂, sym, ◌∙◌}
use Rattle.cv_syntax.proofs.Trees.{tree_at_None}
use Rattle.cv_query_parts.specs.Said.{atom_seen, way_seen}
use Rattle.cv_query.specs.Claimed.{derived_by}
use Rattle.cv_query.proofs.claims.derivation_of.Goals as goal

pub returns-in-Holds-clause-tree : goal.returns-in-Holds-clause-tree
returns-in-Holds-clause-tree c = λ trees. tree_at_None trees ∙ ap₂ (λ a r. derived_by (atom_seen trees a) (way_seen trees r)) (sym c.in-Event.is) (sym c.in-Holds.is)

pub returns-in-Other-clause-tree : goal.returns-in-Other-clause-tree
returns-in-Other-clause-tree c = λ trees. tree_at_None trees ∙ ap₂ (λ a r. derived_by (atom_seen trees a) (way_seen trees r)) (sym c.in-Event.is) (sym c.in-Other.is)

pub returns-in-Above-route-clause-tree : goal.returns-in-Above-route-clause-tree
returns-in-Above-route-clause-tree c = λ trees. tree_at_None trees ∙ ap₂ (λ a r. derived_by (atom_seen trees a) (way_seen trees r)) (sym c.in-Term.is) (sym c.in-Above-route.is)

pub returns-in-Cell-route-clause-tree : goal.returns-in-Cell-route-clause-tree
returns-in-Cell-route-clause-tree c = λ trees. tree_at_None trees ∙ ap₂ (λ a r. derived_by (atom_seen trees a) (way_seen trees r)) (sym c.in-Term.is) (sym c.in-Cell-route.is)

pub returns-in-Other-route-clause-tree : goal.returns-in-Other-route-clause-tree
returns-in-Other-route-clause-tree c = λ trees. tree_at_None trees ∙ ap₂ (λ a r. derived_by (atom_seen trees a) (way_seen trees r)) (sym c.in-Term.is) (sym c.in-Other-route.is)
