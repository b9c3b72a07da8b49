-- A game whose steps can be tested: it is well-formed, and what there is to read in it was looked up there.
use Rattle.std.specs.Prelude.{◌≡◌, ◌<◌, ◌^◌, IfSome, List, Some, length}
use Rattle.cv_pool.specs.declared.node.NodeId.{NodeId}
use Rattle.cv_pool.specs.KindTree.{KindTree}
use Rattle.cv_syntax.specs.Classes.{DeclsView}
use Rattle.cv_syntax.specs.Declarations.{declarations}
use Rattle.cv_syntax_trees.specs.Tree.{size}
use Rattle.cv_syntax.specs.PoolTrees.{tree_at}
use Rattle.cv_directory.specs.Definitions.{entries_of, large_in}
use Rattle.cv_syntax_trees.specs.sites.Sites.{sites_of}
use Rattle.cv_directory.specs.Tables.{entries_in}
use Rattle.cv_typing.specs.declared.arrays.Arrays.{Arrays}
use Rattle.cv_scope_rules.specs.typing.Signature.{OfGame}
use Rattle.cv_typing.specs.Tables.{arrays_of, directory_in}
use Rattle.cv_scope_rules.specs.Phrases.{IsWellFormed}

pub record IsPrepared (trees : List KindTree) (decls : DeclsView) (game : NodeId) (a : Arrays) : Type 0 where
  pub live : game.0 < length trees
  pub fits : size (tree_at trees (Some game)) < 2 ^ 32
  pub formed : IsWellFormed (declarations trees decls.list) (tree_at trees (Some game))
  pub arrays : arrays_of a ≡ OfGame (sites_of (tree_at trees (Some game)))
  pub entries : IfSome (directory_in a) (λ d. entries_in trees d ≡ entries_of (large_in decls.list) (tree_at trees (Some game)))
