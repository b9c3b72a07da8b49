-- What a rehearsal of a search stands on, and what it leaves. This profile's own.
use Rattle.std.specs.Prelude.{◌≡◌, ◌<◌, ◌≤◌, All, Some, length}
use Rattle.cv_accept.specs.Accepted.{most_pool}
use Rattle.cv_kernel_crypto.specs.Applied.{HasEquivalences}
use Rattle.cv_parse.specs.Declaring.{IsBelow}
use Rattle.cv_scene_view.specs.Kept.{scene_of}
use Rattle.cv_scope_rules.specs.Phrases.{IsWellFormed}
use Rattle.cv_syntax.specs.Declarations.{declarations}
use Rattle.cv_syntax.specs.PoolTrees.{tree_at}
use Rattle.cv_syntax.specs.declared.work.Game.{Game}
use Rattle.cv_syntax.specs.declared.work.Work.{Work}
use Rattle.cv_syntax.specs.limits.Limits.{most_nodes}
use Rattle.cv_syntax_trees.specs.Tree.{size}

-- A game of an accepted file stands in the work, whose pool has the limit of files.
pub record MayBegin (w : Work) (game : Game) : Type 0 where
  pub live : game.root.0 < length w.pool.trees
  pub small : size (tree_at w.pool.trees (Some game.root)) ≤ most_nodes
  pub formed : IsWellFormed (declarations w.pool.trees w.decls.list) (tree_at w.pool.trees (Some game.root))
  pub below : All (IsBelow (length w.pool.trees)) w.decls.list
  pub equivalences : HasEquivalences (scene_of w.pool w.decls game.root)
  pub limit : w.pool.limit ≡ most_pool

-- The trees, the names and the declarations of a work are as they were; its pool may have more room at hand.
pub record IsUnchanged (old new : Work) : Type 0 where
  pub trees : new.pool.trees ≡ old.pool.trees
  pub limit : new.pool.limit ≡ old.pool.limit
  pub names : new.names ≡ old.names
  pub decls : new.decls ≡ old.decls
