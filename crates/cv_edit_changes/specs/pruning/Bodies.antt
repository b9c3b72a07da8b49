-- Bodies of constructs as the code names them, the game without one, and when a pool has room for it. This profile's own.
use Rattle.std.specs.Prelude.{ℕ, ◌+◌, Bool, true, false, nat_lt, if◌then◌else◌, length, Option, Some, None, option_map}
use Rattle.cv_pool.specs.PoolView.{PoolView}
use Rattle.cv_syntax.specs.declared.work.BuildError.TheVariants as build
use Rattle.cv_syntax_trees.specs.declared.head.Head.TheVariants.{Find}
use Rattle.cv_syntax_trees.specs.Tree.{Tree, Empty, Node}
use Rattle.cv_meaning.specs.Replaced.{replaced}
use Rattle.cv_path.specs.Places.{nodes_above}
use Rattle.cv_path.specs.declared.error.PathError.{PathError}
use Rattle.cv_path.specs.declared.error.PathError.TheVariants.{NoSuchPlace, Build}
use Rattle.cv_scene.specs.Scenes.{part_at}
use Rattle.cv_scene.specs.Pruning.{Part, Then, Else, Branch, Pruned, pruned, without_branch}
use Rattle.cv_edit_changes.specs.declared.pruning.body.Body.{Body}
use Rattle.cv_edit_changes.specs.declared.pruning.body.Body.TheVariants as code

abbrev pub part_of : Body → Part
part_of code.Then = Then
part_of code.Else = Else
part_of (code.Branch k) = Branch k

-- the game without the body, if there is one
abbrev pub game_without : Tree → (place : ℕ) → Part → Option Tree
game_without game p part = option_map (λ b. replaced game p b.left) (pruned p (part_at game p) part)

-- of a `find` that stays, its node is made, and that of each branch before the one that goes
abbrev pub nodes_unless_empty : (branches : Tree) → (k : ℕ) → ℕ
nodes_unless_empty Empty k = 0
nodes_unless_empty (Node h a b) k = k

abbrev pub nodes_of : Tree → Part → ℕ
nodes_of (Node (Find l) branches e) (Branch k) = nodes_unless_empty (without_branch branches k) k
nodes_of t part = 0

-- how many are made, those above the place among them
abbrev pub need_of : Tree → (place : ℕ) → Part → ℕ
need_of game p part = nodes_above game p + nodes_of (part_at game p) part

abbrev pub refusal_by : PoolView → (need : ℕ) → Option Pruned → Option PathError
refusal_by v need None = Some NoSuchPlace
refusal_by v need (Some b) = if nat_lt v.limit (length v.trees + need) then Some (Build (build.Full need)) else None

-- there must be such a body, and the pool needs room for all these nodes
abbrev pub refusal : PoolView → Tree → (place : ℕ) → Part → Option PathError
refusal v game p part = refusal_by v (need_of game p part) (pruned p (part_at game p) part)
