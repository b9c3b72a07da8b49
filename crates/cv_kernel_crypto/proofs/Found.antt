-- The sites that are found for an equivalence and a key.
use Rattle.std.proofs.Common.{◌≡◌, ℕ, All, List, length, map, Some, refl, ap, subst}
use Rattle.std.proofs.lemmas.List.Elements.{All-weaker}
use Rattle.cv_pool.specs.declared.node.NodeId.{NodeId}
use Rattle.cv_pool.specs.PoolView.{PoolView}
use Rattle.cv_syntax.specs.Classes.{DeclsView, equiv_in}
use Rattle.cv_syntax_trees.specs.Tree.{Tree}
use Rattle.cv_syntax.specs.PoolTrees.{tree_at}
use Rattle.cv_meaning.specs.contexts.Groups.{Left, side_group}
use Rattle.cv_group_rules.specs.Faults.{SameShape}
use Rattle.cv_match.specs.Matched as matched
use Rattle.cv_match_terms.specs.patterns.Sites.{HasInstance, site_in}
use Rattle.cv_match_terms.specs.declared.patterns.site.Site.{Site}
use Rattle.cv_scene_view.specs.Kept.{scene_of}
use Rattle.cv_scene.specs.Contexts.{matching_of}
use Rattle.cv_scene.specs.Instances.{Matching}
use Rattle.cv_scene.specs.Scenes.{Scene}
use Rattle.cv_scene.specs.Sites.{sites_of}
use Rattle.cv_context.specs.Roles.{AreSitesOf, IsLiveCall}
use Rattle.cv_context_runs.proofs.instances.Terms.{only_terms}
use Rattle.cv_match_laws.proofs.functions.Bodies.{left_terms}
use Rattle.cv_inline_draws.specs.callings.RightFunctions.{HasRightFunctions}
use Rattle.cv_inline_draws.proofs.callings.Agreement.{have_functions}
use Rattle.cv_kernel_crypto.specs.Applied.{HasEquivalences}
use Rattle.cv_kernel_crypto.proofs.Failing.{node_named}

module _ (pool : PoolView) (decls : DeclsView) (game : NodeId) (e x : ℕ) (n : NodeId) (i : equiv_in decls.list e ≡ Some n) where
  abbrev s : Scene
  s = scene_of pool decls game

  abbrev t : Tree
  t = tree_at pool.trees (Some n)

  abbrev M : Matching
  M = matched.matching_of pool decls game e x

  same : M ≡ matching_of s t x
  same = ap (λ o. record { scene = s; group = side_group Left (tree_at pool.trees o); key = x }) i

  pub sites_found : (sites : List Site) → HasEquivalences s → map (site_in pool.trees M) sites ≡ sites_of M → All (HasInstance pool.trees M) sites → AreSitesOf pool.trees s t x sites (Some game)
  sites_found sites q f a =
      let k = q e t (node_named pool decls game e n i) in
      record {
        game = refl;
        sites = subst (λ (m : Matching). map (site_in pool.trees m) sites ≡ sites_of m) same f;
        instances = subst (λ (m : Matching). All (HasInstance pool.trees m) sites) same a;
        terms = λ u h. only_terms s.declarations (matching_of s t x) u (left_terms s.declarations t k.0 k.1) h;
      }

  pub calls_found : (sites : List Site) → All (HasInstance pool.trees M) sites → All (IsLiveCall (length pool.trees)) sites
  calls_found = All-weaker (HasInstance pool.trees M) (IsLiveCall (length pool.trees)) (λ c h. record { key = h.instance.key; coins = h.instance.coins; arguments = h.instance.arguments })

  pub right_found : HasEquivalences s → HasRightFunctions t
  right_found q = let k = q e t (node_named pool decls game e n i) in have_functions t (k.1.kept SameShape)
