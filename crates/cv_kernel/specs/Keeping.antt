-- What stays of a pool when games are given back.
use Rattle.std.specs.Prelude.{◌≡◌, ℕ, ◌+◌, ◌≤◌, length, max, take}
use Rattle.cv_pool.specs.PoolView.{PoolView}
use Rattle.cv_syntax.specs.Postorder.{postorder}
use Rattle.cv_syntax_trees.specs.Tree.{Tree}

-- all stays up to a mark
pub record StaysUpTo (mark : ℕ) (old new : PoolView) : Type 0 where
  pub kept : take mark new.trees ≡ take mark old.trees
  pub long : mark ≤ length new.trees
  pub limit : new.limit ≡ old.limit

-- how many nodes stand behind a mark at most before some are given back
abbrev pub most_behind : ℕ
most_behind = 262144

-- No more than so many stand behind it, unless the game itself is longer.
abbrev pub IsFreed : (mark : ℕ) → (game : Tree) → PoolView → Type 0
IsFreed mark game pool = length pool.trees ≤ mark + max most_behind (length (postorder game))
