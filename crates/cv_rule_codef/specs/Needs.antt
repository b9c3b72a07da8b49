-- For how many nodes a pool is asked where a branch gets another list. This profile's own.
use Rattle.std.specs.Prelude.{ℕ, ◌+◌, Bool, if◌then◌else◌}
use Rattle.cv_syntax_trees.specs.declared.head.Head.TheVariants.{Branch}
use Rattle.cv_syntax_trees.specs.Tree.{Tree, Empty, Node, same_tree}
use Rattle.cv_scene.specs.Scenes.{part_at}
use Rattle.cv_edit_places.specs.Changes.{need_at}

-- each link of the list is made, and one more
abbrev pub made_with : (cells : Tree) → ℕ
made_with Empty = 1
made_with (Node h item more) = made_with more + 1

-- each link before the cell is made
abbrev pub made_without : (cell cells : Tree) → ℕ
made_without c Empty = 0
made_without c (Node h item more) = if same_tree item c then 0 else made_without c more + 1

abbrev pub made_of_relisted : (adds : Bool) → (cell cells : Tree) → ℕ
made_of_relisted adds c cells = if adds then made_with cells else made_without c cells

-- the branch and the link above its list are made too
abbrev pub made_of_codef : (adds : Bool) → (cell branch : Tree) → ℕ
made_of_codef adds c (Node Branch us (Node h cells rest)) = made_of_relisted adds c cells + 2
made_of_codef adds c t = 0

-- for how many nodes the pool is asked, those above it among them
abbrev pub need_codef : (place : ℕ) → (adds : Bool) → (cell game : Tree) → ℕ
need_codef p adds c game = need_at p (made_of_codef adds c (part_at game p)) game
