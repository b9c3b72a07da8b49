-- What the code has of the shape of a context, and of the scene that it is the shape in.
use Rattle.std.specs.Prelude.{◌≡◌, ℕ, true, List, map, None}
use Rattle.cv_pool.specs.KindTree.{KindTree}
use Rattle.cv_syntax_trees.specs.Tree.{Tree}
use Rattle.cv_syntax_trees.specs.sites.Sites.{SitesView, sites_of}
use Rattle.cv_scope_rules.specs.Phrases.{Inputs, is_phrase}
use Rattle.cv_scene.specs.Contexts.{matching_of}
use Rattle.cv_scene.specs.Refusals.{first_refusal}
use Rattle.cv_scene.specs.Scenes.{Scene}
use Rattle.cv_scene.specs.Sites as instances
use Rattle.cv_match_terms.specs.patterns.Sites.{site_in}
use Rattle.cv_match_terms.specs.declared.patterns.site.Site.{Site}
use Rattle.cv_context.specs.products.Products.{products}
use Rattle.cv_context.specs.products.Shapes as definitions
use Rattle.cv_context.specs.declared.products.shape.Calls.{Calls}
use Rattle.cv_context.specs.declared.products.shape.Shape.{Shape}

-- the calls of a function
abbrev pub calls_in : Calls → ℕ × List (List ℕ)
calls_in c = (c.function, products c.sites.items)

-- the shape
abbrev pub shape_in : Shape → definitions.Shape
shape_in h = record { key = h.key; keys = h.keys.items; calls = map calls_in h.calls.items }

-- The directory is that of the game, where nothing speaks against the key, and these are the sites of the left side.
pub record IsMatched (trees : List KindTree) (view : SitesView) (s : Scene) (e : Tree) (x : ℕ) (ss : List Site) : Type 0 where
  pub game : is_phrase Inputs s.game ≡ true
  pub directory : view ≡ sites_of s.game
  pub refusal : first_refusal (matching_of s e x) ≡ None
  pub sites : map (site_in trees (matching_of s e x)) ss ≡ instances.sites_of (matching_of s e x)
