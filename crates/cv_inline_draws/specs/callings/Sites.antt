-- The sites of a context. This profile's own.
use Rattle.std.specs.Prelude.{ℕ, [], IfSome, List, length, map, slice_get}
use Rattle.cv_pool.specs.declared.node.NodeId.{NodeId}
use Rattle.cv_pool.specs.KindTree.{KindTree}
use Rattle.cv_syntax_trees.specs.Tree.{Tree, first}
use Rattle.cv_syntax.specs.PoolTrees.{tree_at}
use Rattle.cv_inline_sites.specs.branches.Moves.{IsList}
use Rattle.cv_inline.specs.NextGame as game
use Rattle.cv_inline.specs.NextGame.{call_of, calling}
use Rattle.cv_inline.specs.terms.Callers.{HasLiveCaller}
use Rattle.cv_inline.specs.declared.terms.calling.Calling.{Calling}
use Rattle.cv_inline_sites.specs.listing.Callings.{IsLiveCalling}
use Rattle.cv_inline_draws.specs.callings.FirstCalls.{Table, calls_in}
use Rattle.cv_inline_draws.specs.callings.RightFunctions.{function_in}

-- the site with a number, where the function at this position is called, if there are both; else none
abbrev pub site_of : List KindTree → (right : List NodeId) → Table → (number position : ℕ) → List game.Calling
site_of trees right calls l k = calling l (slice_get (map (function_in trees) right) k) (calls_in trees calls l)

pub record IsLiveSite (trees : List KindTree) (c : Calling) : Type 0 where
  pub calling : IsLiveCalling trees c
  pub caller : HasLiveCaller (length trees) c

-- the index terms of a caller's key are a list
abbrev pub HasListedKey : List KindTree → Calling → Type 0
HasListedKey trees c = IsList (tree_at trees c.caller.key)

-- in each first call of a context they are
abbrev pub HasListedKeys : Tree → Type 0
HasListedKeys context = (l : ℕ) → IfSome (call_of [] l context) (λ c. IsList (first (first c.1)))
