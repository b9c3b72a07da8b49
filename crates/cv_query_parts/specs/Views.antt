-- A game whose certificates are read, and a correspondence, as the code has them.
use Rattle.std.specs.Prelude.{◌≡◌, ℕ, ◌<◌, ◌^◌, All, IfSome, List, Some, length}
use Rattle.cv_pool.specs.KindTree.{KindTree}
use Rattle.cv_pool.specs.Nodes.{ChildBelow}
use Rattle.cv_pool.specs.declared.node.NodeId.{NodeId}
use Rattle.cv_syntax.specs.Declarations.{declarations}
use Rattle.cv_syntax.specs.declared.decls.Decl.{Decl}
use Rattle.cv_syntax_trees.specs.Tree.{Tree, size}
use Rattle.cv_syntax.specs.PoolTrees.{tree_at}
use Rattle.cv_directory.specs.Definitions.{entries_of, large_in}
use Rattle.cv_syntax_trees.specs.sites.Sites.{sites_of}
use Rattle.cv_directory.specs.Tables.{entries_in}
use Rattle.cv_directory.specs.Live.{IsLive}
use Rattle.cv_scope_rules.specs.typing.Signature.{OfGame}
use Rattle.cv_typing.specs.Tables.{arrays_of, directory_in}
use Rattle.cv_typing.specs.declared.arrays.Arrays.{Arrays}
use Rattle.cv_scope_rules.specs.Phrases.{IsWellFormed}
use Rattle.cv_derive_reasons.specs.sizes.Sizes.{AreSizes}
use Rattle.cv_meaning.specs.Correspondences.{Correspondence, leaf_names}
use Rattle.cv_query_parts.specs.Alternatives.{AreAlternativesBelow, alternatives_seen}
use Rattle.cv_scene.specs.Scenes.{Scene}
use Rattle.cv_scene_view.specs.Kept as kept
use Rattle.cv_query_parts.specs.declared.views.Asked.{Asked}
use Rattle.cv_query_parts.specs.declared.views.View.{View}

abbrev pub trees_of : View → List KindTree
trees_of v = v.work.now.pool.trees

abbrev pub game_of : View → Tree
game_of v = tree_at (trees_of v) (Some v.game)

abbrev pub scene_of : View → Scene
scene_of v = kept.scene_of v.work.now.pool v.work.now.decls v.game

-- the game is well-formed, and what there is to read in it was looked up there
pub record IsReadyIn (trees : List KindTree) (ds : List Decl) (game : NodeId) (held : Arrays) : Type 0 where
  pub live : game.0 < length trees
  pub fits : size (tree_at trees (Some game)) < 2 ^ 32
  pub declared : All (IsLive (length trees)) ds
  pub formed : IsWellFormed (declarations trees ds) (tree_at trees (Some game))
  pub arrays : arrays_of held ≡ OfGame (sites_of (tree_at trees (Some game)))
  pub entries : IfSome (directory_in held) (λ d. entries_in trees d ≡ entries_of (large_in ds) (tree_at trees (Some game)))

-- so it is in a view, whose sizes are those of its trees
pub record IsReady (v : View) : Type 0 where
  pub game : IsReadyIn (trees_of v) v.work.now.decls.list v.game v.arrays.now
  pub sizes : AreSizes (trees_of v) v.sizes.now

abbrev pub asked_of : List KindTree → Asked → Correspondence
asked_of trees a = record {
  inj = a.inj;
  event = a.event;
  variables = leaf_names (tree_at trees a.variables);
  others = a.others.now;
  alternatives = alternatives_seen trees a.alternatives.now;
}

-- its nodes are below a number
pub record IsAskedBelow (n : ℕ) (a : Asked) : Type 0 where
  pub variables : ChildBelow n a.variables
  pub alternatives : AreAlternativesBelow n a.alternatives.now
