-- Where a place lies: at a node, or below one of its two children. A place is a preorder number.
use Rattle.std.specs.Prelude.{◌≡◌, ℕ, ◌+◌, ◌-◌, ◌<◌, nat_lt, if◌then◌else◌}
use Rattle.cv_syntax_trees.specs.declared.head.Head.{Head}
use Rattle.cv_syntax_trees.specs.Head.{weight}
use Rattle.cv_syntax_trees.specs.Tree.{Tree, Empty, Node, size}
use Rattle.cv_path.specs.declared.place.Lies.{Lies}
use Rattle.cv_path.specs.declared.place.Lies.TheVariants.{Here, Within, Behind}

-- the place of a node is its own, or this place of its first or of its second child
abbrev pub LiesAt : Head → Tree → ℕ → Lies → Type 0
LiesAt h a p Here = p < weight h
LiesAt h a p (Within q) = (weight h + q ≡ p) × (q < size a)
LiesAt h a p (Behind q) = weight h + size a + q ≡ p

-- how many nodes stand above a place, lists among them
unfoldable pub nodes_above : Tree → ℕ → ℕ
nodes_above Empty p = 0
nodes_above (Node h a b) p = if nat_lt p (weight h) then 0 else if nat_lt p (weight h + size a) then nodes_above a (p - weight h) + 1 else nodes_above b (p - (weight h + size a)) + 1
