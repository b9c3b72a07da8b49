-- What is told of a step in code.
use Rattle.std.proofs.Common.{◌≡◌, ℕ, ◌<◌, List, Option, Some, None, refl}
use Rattle.std.specs.Prelude.{IfSome, option_map}
use Rattle.cv_kernel.specs.Closings.{Closing}
use Rattle.cv_kernel.specs.Proofs.{game_behind}
use Rattle.cv_pool.specs.KindTree.{KindTree}
use Rattle.cv_syntax.specs.PoolTrees.{tree_at}
use Rattle.cv_syntax.specs.declared.work.Game.{Game}
use Rattle.cv_follow.specs.Walks.{next_of}

-- the game that a step leads to
pub next_told : (trees : List KindTree) (c : Option Closing) (g : Game) → option_map (λ (q : Game). tree_at trees (Some q.root)) (next_of c g) ≡ game_behind c (tree_at trees (Some g.root))
next_told trees None g = refl
next_told trees (Some c) g = refl

pub next_live : (n : ℕ) (c : Option Closing) (g : Game) → g.root.0 < n → IfSome (next_of c g) (λ q. q.root.0 < n)
next_live n None g l = l
next_live n (Some c) g l = tt
