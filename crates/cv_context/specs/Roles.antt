-- What names of a game are there for in its context, by the sites that a search answers. This profile's own.
use Rattle.std.specs.Prelude.{◌≡◌, ℕ, Bool, false, List, map, slice_index_or, Option, None}
use Rattle.std.specs.List.{All, list_any}
use Rattle.cv_pool.specs.KindTree.{KindTree}
use Rattle.cv_pool.specs.Nodes.{ChildBelow}
use Rattle.cv_pool.specs.declared.node.NodeId.{NodeId}
use Rattle.cv_syntax_trees.specs.Tree.{Tree}
use Rattle.cv_syntax.specs.PoolTrees.{tree_at}
use Rattle.cv_scene.specs.Scenes.{Scene}
use Rattle.cv_scene.specs.Sights.{variable_of}
use Rattle.cv_scene.specs.Apt.{has_value}
use Rattle.cv_scene.specs.Contexts.{call_terms, matching_of}
use Rattle.cv_scene.specs.Instances.{call_at, is_read_of}
use Rattle.cv_scene.specs.Sites.{sites_of}
use Rattle.cv_match_terms.specs.patterns.Sites.{HasInstance, instance_in, site_in}
use Rattle.cv_match_terms.specs.declared.patterns.site.Site.{Site}
use Rattle.cv_context.specs.nodes.Calls.{terms_of}
use Rattle.cv_context.specs.declared.nodes.calls.Call.{Call}

-- the nodes that stand for names stand in a pool with so many
pub record IsLiveCall (n : ℕ) (s : Site) : Type 0 where
  pub key : ChildBelow n s.instance.key
  pub coins : All (ChildBelow n) s.instance.coins.items
  pub arguments : All (ChildBelow n) s.instance.arguments.items

-- a place with what a call reads, as the code has it, and as a site says

abbrev pub reads_at : List KindTree → Call → ℕ × Tree
reads_at trees c = (c.place, terms_of trees c)

abbrev pub reads_of : List KindTree → Site → ℕ × Tree
reads_of trees s = (s.place, call_terms (instance_in trees s.instance))

-- one of the terms reads the variable
abbrev pub is_read_in : List KindTree → List (Option NodeId) → ℕ → Bool
is_read_in trees ms y = list_any (λ m. is_read_of y (variable_of (tree_at trees m))) ms

-- the variable stands for a coin at one of the sites
abbrev pub is_coin_at : List KindTree → List Site → ℕ → Bool
is_coin_at trees ss y = list_any (λ (s : Site). is_read_in trees s.instance.coins.items y) ss

-- the answer of a site, of these names
abbrev pub name_at : List ℕ → ℕ → ℕ
name_at names k = slice_index_or names k 0

-- The sites are those of a game for an equivalence and a key, as a search answers them, and only terms are instances.
pub record AreSitesOf (trees : List KindTree) (s : Scene) (equivalence : Tree) (key : ℕ) (ss : List Site) (root : Option NodeId) : Type 0 where
  pub game : s.game ≡ tree_at trees root
  pub sites : map (site_in trees (matching_of s equivalence key)) ss ≡ sites_of (matching_of s equivalence key)
  pub instances : All (HasInstance trees (matching_of s equivalence key)) ss
  pub terms : (t : Tree) → has_value t ≡ false → call_at (matching_of s equivalence key) t ≡ None
