-- For how many nodes a pool is asked. This profile's own.
use Rattle.std.specs.Prelude.{ℕ, min}
use Rattle.cv_syntax_trees.specs.Tree.{Tree}
use Rattle.cv_syntax.specs.limits.Limits.{nodes_of}

-- more than it can have are asked for as the most that it can count
abbrev pub most_asked : ℕ → ℕ
most_asked n = min n 4294967295

-- those of a tree, counted at each of its places
abbrev pub need_for : Tree → ℕ
need_for t = most_asked (nodes_of t)
