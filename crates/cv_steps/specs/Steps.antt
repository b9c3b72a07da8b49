-- Steps of proofs: what a step leads to in a game, or which of its conditions fails there. This profile's own.
use Rattle.std.specs.Prelude.{ℕ, Bool, List}
use Rattle.cv_syntax_trees.specs.Tree.{Tree}
use Rattle.cv_bound.specs.declared.cost.Collision.{Collision}
use Rattle.cv_scene.specs.Scenes.{Scene}

-- what a step may change the chance of an experiment by: nothing, or the chances of collisions
pub data Cost : Type 0 where
  Zero : Cost
  Collisions : List Collision → Cost

-- the first condition that fails, with its place, or the next game and the cost
pub data Row : Type 0 where
  Fails : (condition place : ℕ) → Row
  Leads : (next : Tree) → Cost → Row

-- A step, by what is said of it in each scene: whether what it speaks of is there, and its row.
pub record Step : Type 0 where
  pub stands : Scene → Bool
  pub row : Scene → Row
