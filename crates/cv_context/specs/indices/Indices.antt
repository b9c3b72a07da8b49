-- Which names the indices of a game are: new ones at each replication, and at reads no values of types. This profile's own.
use Rattle.std.specs.Prelude.{ℕ, Bool, true, false, ◌||◌, ◌&&◌, not, ◌==◌, List}
use Rattle.cv_syntax_trees.specs.declared.head.Head.{Head}
use Rattle.cv_syntax_trees.specs.declared.head.Head.TheVariants.{Leaf, Read, Repl}
use Rattle.cv_syntax_trees.specs.Tree.{Tree, Empty, Node}
use Rattle.cv_scope_rules.specs.Context.{replications_below}
use Rattle.cv_scope_rules.specs.Rules.{is_index}
use Rattle.cv_scene.specs.Refusals.{uses}

-- the index of a replication is that of none above it, and no variable

abbrev pub binds_new_index : (variable : ℕ → Bool) → List (ℕ × ℕ) → Head → Bool
binds_new_index variable rs (Repl i n) = not (is_index rs i) && not (variable i)
binds_new_index variable rs h = true

unfoldable pub indices_are_new : (variable : ℕ → Bool) → List (ℕ × ℕ) → Tree → Bool
indices_are_new variable rs Empty = true
indices_are_new variable rs (Node h a b) =
    binds_new_index variable rs h && (indices_are_new variable rs a && indices_are_new variable (replications_below h rs) b)

-- no name is read at indices that use the variable

abbrev pub reads_name : Head → Bool
reads_name (Leaf y) = true
reads_name (Read y) = true
reads_name h = false

unfoldable pub indices_use_none : ℕ → Tree → Bool
indices_use_none x Empty = true
indices_use_none x (Node h a b) = (not (reads_name h) || (uses x a == 0)) && (indices_use_none x a && indices_use_none x b)
