-- What the tests of a site ask of it, in a pool with these trees.
use Rattle.std.specs.Prelude.{ℕ, ◌+◌, ◌<◌, ◌^◌, Bool, ◌&&◌, not, ◌==◌, List, Option, Some}
use Rattle.cv_pool.specs.KindTree.{KindTree}
use Rattle.cv_syntax_trees.specs.Tree.{Tree, same_tree, size}
use Rattle.cv_syntax.specs.PoolTrees.{tree_at}
use Rattle.cv_scope_rules.specs.Context.{cell_of}
use Rattle.cv_scene.specs.Scenes.{is_queried}
use Rattle.cv_meaning.specs.contexts.Groups.{function_of}
use Rattle.cv_scene.specs.Instances.{Matching}
use Rattle.cv_scene.specs.Refusals.{are_coins, first_in_arguments, uses}
use Rattle.cv_scene.specs.Sites as instances
use Rattle.cv_match_terms.specs.declared.patterns.site.Site.{Site}

-- the places of its term and the size of its function's body fit in 32 bits
pub record IsSmallSite (trees : List KindTree) (s : Site) : Type 0 where
  pub term : s.place + size (tree_at trees (Some s.term)) < 2 ^ 32
  pub body : size (function_of (tree_at trees s.pattern)).body < 2 ^ 32

-- the term is the variable's cell there, and no query and no further term uses the variable
unfoldable pub is_own_use : Matching → instances.Site → (coin : ℕ) → (term : Tree) → ℕ → Bool
is_own_use M s c m y =
    same_tree m (cell_of s.replications y) && (not (is_queried M.scene y) && (uses y M.scene.game == uses c s.call.function.body))

-- each coin has its own term
abbrev pub has_coins : Matching → instances.Site → Bool
has_coins M s = are_coins M s s.call.function.coins s.call.instance.coins

-- the first place where what stands for an argument reads the variable
abbrev pub use_at : List KindTree → ℕ → Site → Option ℕ
use_at trees x s =
    first_in_arguments x (function_of (tree_at trees s.pattern)).arguments (function_of (tree_at trees s.pattern)).body s.place (tree_at trees (Some s.term))
