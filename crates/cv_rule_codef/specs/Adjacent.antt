-- Variables whose definitions are adjacent, so that both are assigned or neither is wherever a `defined` list is looked at; and those of
-- which one is defined above the other. This profile's own.
use Rattle.std.specs.Prelude.{ℕ, ◌+◌, Bool, true, false, ◌&&◌, ◌||◌, not, ◌==◌, if◌then◌else◌}
use Rattle.cv_syntax_trees.specs.declared.head.Head.{Head}
use Rattle.cv_syntax_trees.specs.declared.head.Head.TheVariants.{Branch, Cons, Let, New, Repl}
use Rattle.cv_syntax_trees.specs.Tree.{Tree, Empty, Node}
use Rattle.cv_scope_rules.specs.Made.{made_by}
use Rattle.cv_scope_rules.specs.Sites.{Variable}

-- how many constructs of a tree define a variable
unfoldable pub sites : (x : ℕ) → Tree → ℕ
sites x Empty = 0
sites x (Node h a b) = (if made_by h a (Variable x) then 1 else 0) + (sites x a + sites x b)

-- the process begins with a `new` or a `let` of a variable
abbrev pub begins_with : (x : ℕ) → Tree → Bool
begins_with x (Node (New y T) a b) = y == x
begins_with x (Node (Let y T) a b) = y == x
begins_with x t = false

-- what stands behind the first item of a list
abbrev pub behind_item : Tree → Tree
behind_item (Node Cons item rest) = rest
behind_item t = Empty

-- the process that follows a construct: behind the list and the condition of a branch, its body
abbrev pub following : Head → (second_child : Tree) → Tree
following Branch b = behind_item (behind_item b)
following h b = b

-- the construct defines the first variable, and the second one too, or the second one's `new` or `let` follows directly
abbrev pub defines_both : (x y : ℕ) → Head → (a b : Tree) → Bool
defines_both x y h a b = made_by h a (Variable x) && (made_by h a (Variable y) || begins_with y (following h b))

-- so does a construct of the tree
unfoldable pub are_joined : (x y : ℕ) → Tree → Bool
are_joined x y Empty = false
are_joined x y (Node h a b) = defines_both x y h a b || (are_joined x y a || are_joined x y b)

-- Two variables with one site each: arguments of one input, indices of one branch, or one is a `new` or a `let` that follows directly
-- on the definition of the other.
abbrev pub are_adjacent : (x y : ℕ) → Tree → Bool
are_adjacent x y game = not (x == y) && (sites x game == 1 && (sites y game == 1 && (are_joined x y game || are_joined y x game)))

abbrev pub is_replication : Head → Bool
is_replication (Repl i n) = true
is_replication h = false

-- a construct of the tree defines the variable, below no replication of the tree
unfoldable pub is_defined_below : (x : ℕ) → Tree → Bool
is_defined_below x Empty = false
is_defined_below x (Node h a b) = not (is_replication h) && (made_by h a (Variable x) || (is_defined_below x a || is_defined_below x b))

-- a construct defines the second variable, and the first one is defined behind it under the same replications
unfoldable pub stands_above : (x y : ℕ) → Tree → Bool
stands_above x y Empty = false
stands_above x y (Node h a b) = (made_by h a (Variable y) && is_defined_below x (following h b)) || (stands_above x y a || stands_above x y b)

-- Two variables with one site each, of which the second one's stands above that of the first, under the same replications.
abbrev pub is_above : (x y : ℕ) → Tree → Bool
is_above x y game = not (x == y) && (sites x game == 1 && (sites y game == 1 && stands_above x y game))
