-- The limits of games, in syntax nodes; how such numbers are told; and how many nodes of a pool trees take. This profile's own.
use Rattle.std.specs.Prelude.{ℕ, ◌-◌, ◌^◌, min, nat_lt, if◌then◌else◌, Option, Some, None}
use Rattle.cv_syntax.specs.declared.work.BuildError.{BuildError}
use Rattle.cv_syntax.specs.declared.work.BuildError.TheVariants as build
use Rattle.cv_syntax.specs.Planting.{overs}
use Rattle.cv_syntax.specs.Postorder.{postorder}
use Rattle.cv_syntax_trees.specs.Tree.{Tree}

-- the most nodes of a game
abbrev pub most_nodes : ℕ
most_nodes = 50000

-- the most nodes on a path of a game
abbrev pub most_depth : ℕ
most_depth = 200

-- a game of this size and depth passes this limit
abbrev pub limit_fault : (nodes depth : ℕ) → Option BuildError
limit_fault nodes depth = if nat_lt most_nodes nodes then Some (build.Nodes nodes) else if nat_lt most_depth depth then Some (build.Depth depth) else None

-- a number as it is told: what is above the greatest number of 32 bits is told as that number
abbrev pub told : ℕ → ℕ
told n = min n (2 ^ 32 - 1)

-- how many nodes of a pool a tree takes, lists among them
abbrev pub nodes_of : Tree → ℕ
nodes_of t = overs (postorder t)
