-- What the soundness of a correspondence's certificate takes: a ready game, derivations that hold, a query that is a correspondence
-- and names what it may, and a certificate that is accepted. This profile's own.
use Rattle.std.specs.Prelude.{◌≡◌, Bool, true, false}
use Rattle.cv_syntax_trees.specs.declared.head.Head.TheVariants.{Query}
use Rattle.cv_syntax_trees.specs.Tree.{Tree, Node}
use Rattle.cv_derive_laws.specs.stores.Holding.{IsReady}
use Rattle.cv_derive_laws.specs.stores.Soundness.{DerivationsHold}
use Rattle.cv_scene.specs.Scenes.{Scene}
use Rattle.cv_query_certificates.specs.Accepted.{IsAccepted}
use Rattle.cv_query.specs.kinds.Closed.{IsClosedQuery}

abbrev pub is_correspondence : (query : Tree) → Bool
is_correspondence (Node Query binders sides) = true
is_correspondence query = false

pub record IsProved (s : Scene) (query certificate : Tree) : Type 0 where
  pub ready : IsReady s.declarations s.game
  pub sound : DerivationsHold s.declarations
  pub correspondence : is_correspondence query ≡ true
  pub closed : IsClosedQuery s.declarations query
  pub accepted : IsAccepted s query certificate
