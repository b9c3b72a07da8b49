-- What the code has of calls and of sites.
use Rattle.std.specs.Prelude.{◌≡◌, ◌<◌, ℕ, List, length, map, Some}
use Rattle.std.specs.List.{All}
use Rattle.cv_pool.specs.KindTree.{KindTree}
use Rattle.cv_pool.specs.Nodes.{ChildBelow}
use Rattle.cv_pool.specs.declared.node.NodeId.{NodeId}
use Rattle.cv_syntax.specs.PoolTrees.{tree_at}
use Rattle.cv_meaning.specs.contexts.Groups.{function_of}
use Rattle.cv_scene.specs.Instances as definitions
use Rattle.cv_scene.specs.Instances.{Call, Matching, guess}
use Rattle.cv_scene.specs.Sites as instances
use Rattle.cv_match_terms.specs.declared.patterns.site.Found.{Found}
use Rattle.cv_match_terms.specs.declared.patterns.site.Instance.{Instance}
use Rattle.cv_match_terms.specs.declared.patterns.site.Site.{Site}

-- the call of a function that a term is
abbrev pub found_call : List KindTree → Matching → NodeId → Found → Call
found_call trees M term o = record {
  position = o.position;
  function = function_of (tree_at trees o.function);
  instance = guess M.group (function_of (tree_at trees o.function)) (tree_at trees (Some term));
}

-- the site that the code has
abbrev pub site_in : List KindTree → Matching → Site → instances.Site
site_in trees M s = record {
  place = s.place;
  term = tree_at trees (Some s.term);
  replications = s.replications.items;
  call = found_call trees M s.term (record { position = s.function; function = s.pattern });
}

-- the site that a call is, at a place below replications
abbrev pub found_site : List KindTree → Matching → ℕ → List (ℕ × ℕ) → NodeId → Found → instances.Site
found_site trees M p rs term o = record { place = p; term = tree_at trees (Some term); replications = rs; call = found_call trees M term o }

-- its nodes stand in a pool with so many
pub record IsLiveSite (n : ℕ) (s : Site) : Type 0 where
  pub term : s.term.0 < n
  pub pattern : ChildBelow n s.pattern

-- the terms that the nodes of an instance are
abbrev pub instance_in : List KindTree → Instance → definitions.Instance
instance_in trees i = record { key = tree_at trees i.key; coins = map (tree_at trees) i.coins.items; arguments = map (tree_at trees) i.arguments.items }

-- The nodes stand in the pool, and are those of these terms.
pub record IsInstanceIn (trees : List KindTree) (I : definitions.Instance) (i : Instance) : Type 0 where
  pub terms : instance_in trees i ≡ I
  pub key : ChildBelow (length trees) i.key
  pub coins : All (ChildBelow (length trees)) i.coins.items
  pub arguments : All (ChildBelow (length trees)) i.arguments.items

-- The nodes of a site are those of the terms of its call.
pub record HasInstance (trees : List KindTree) (M : Matching) (s : Site) : Type 0 where
  pub instance : IsInstanceIn trees (site_in trees M s).call.instance s.instance
