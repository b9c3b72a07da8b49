-- How steps change games. This profile's own.
use Rattle.std.specs.Prelude.{ℕ, Bool, ◌==◌, if◌then◌else◌, Option, Some, None}
use Rattle.cv_syntax_trees.specs.declared.head.Head.TheVariants.{New, Let}
use Rattle.cv_syntax_trees.specs.Tree.{Tree, Empty, Node}
use Rattle.cv_meaning_runs.specs.Replacement.{if_tree}
use Rattle.cv_meaning.specs.Replaced.{replaced}
use Rattle.cv_meaning.specs.Still.{defines}
use Rattle.cv_scene.specs.Pruning.{Part, Pruned, pruned}
use Rattle.cv_scene.specs.Scenes.{part_at}

-- the tree with what stands at a place changed
abbrev pub change_at : Tree → ℕ → (Tree → Tree) → Tree
change_at t p change = replaced t p (change (part_at t p))

-- `if` the condition holds `then` the process, `else` the same
abbrev pub split_process : Tree → Tree → Tree
split_process condition process = if_tree condition process process

-- `let` and `new` before a process
abbrev pub after_let : (x type : ℕ) → (term process : Tree) → Tree
after_let x T m process = Node (Let x T) m process

abbrev pub after_new : (x type : ℕ) → (process : Tree) → Tree
after_new x T process = Node (New x T) Empty process

-- the tree without the `new` and `let` of these variables
unfoldable pub without : (ℕ → Bool) → Tree → Tree
without xs Empty = Empty
without xs (Node h a b) = if defines xs h then without xs b else Node h (without xs a) (without xs b)

-- this variable alone
abbrev pub only : ℕ → ℕ → Bool
only x y = y == x

-- what is left of the construct at a place without a body of it; a construct without that body stays

abbrev pub left_or : Tree → Option Pruned → Tree
left_or t None = t
left_or t (Some b) = b.left

abbrev pub without_body : (place : ℕ) → Part → Tree → Tree
without_body p part t = left_or t (pruned p t part)
