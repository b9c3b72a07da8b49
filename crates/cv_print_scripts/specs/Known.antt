-- What is known of a tree whose text is in a script. This profile's own.
use Rattle.std.specs.Prelude.{ℕ, ◌^◌, Bool, true, ◌&&◌, nat_lt}
use Rattle.cv_syntax_trees.specs.Tree.{Tree, Empty, Node}
use Rattle.cv_syntax_trees.specs.declared.head.Head.{Head}
use Rattle.cv_syntax_trees.specs.declared.head.Head.TheVariants.{Number}
use Rattle.cv_print_bytes.specs.Known.{head_is_named}

-- its names are below so many, and a number fits 64 bits
abbrev pub head_is_known : ℕ → Head → Bool
head_is_known count (Number v) = nat_lt v (2 ^ 64)
head_is_known count h = head_is_named count h

unfoldable pub is_known : ℕ → Tree → Bool
is_known count Empty = true
is_known count (Node h a b) = head_is_known count h && (is_known count a && is_known count b)
