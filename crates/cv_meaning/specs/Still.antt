-- Constructs that define variables, and trees that define nothing and have nothing that is chosen.
use Rattle.std.specs.Prelude.{ℕ, Bool, true, false, ◌&&◌}
use Rattle.cv_syntax_trees.specs.declared.head.Head.{Head}
use Rattle.cv_syntax_trees.specs.declared.head.Head.TheVariants.{New, Let, Find, Binder, Key, Call}
use Rattle.cv_syntax_trees.specs.Tree.{Tree, Empty, Node}

-- the construct defines one of these variables, by `new` or `let`
abbrev pub defines : (ℕ → Bool) → Head → Bool
defines xs (New x T) = xs x
defines xs (Let x T) = xs x
defines xs h = false

-- the tree has nothing that is chosen, and defines nothing: so it is with a term
abbrev pub head_is_still : Head → Bool
head_is_still (New x T) = false
head_is_still (Let x T) = false
head_is_still (Binder x T) = false
head_is_still (Find l) = false
head_is_still (Key x) = false
head_is_still (Call x l) = false
head_is_still h = true

abbrev pub is_still : Tree → Bool
is_still Empty = true
is_still (Node h a b) = head_is_still h && (is_still a && is_still b)
