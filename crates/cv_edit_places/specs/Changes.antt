-- The changes of steps, as the code names them, and for how many nodes a pool is asked.
use Rattle.std.specs.Prelude.{◌≡◌, ℕ, ◌+◌, ◌<◌, List, length, Some}
use Rattle.cv_pool.specs.KindTree.{KindTree}
use Rattle.cv_syntax_trees.specs.Tree.{Tree}
use Rattle.cv_syntax.specs.PoolTrees.{tree_at}
use Rattle.cv_path.specs.Places.{nodes_above}
use Rattle.cv_syntax.specs.listing.Needs.{most_asked}
use Rattle.cv_steps.specs.Changes.{split_process, after_let, after_new}
use Rattle.cv_edit_places.specs.Parts.{AreLive, made_by, stack_of, top_of}
use Rattle.cv_edit_places.specs.declared.change.Change.{Change}
use Rattle.cv_edit_places.specs.declared.change.Change.TheVariants.{Split, AfterLet, AfterNew, Replace, Built}

-- a change, with what stands in the pool
abbrev pub change_of : List KindTree → Change → Tree → Tree
change_of trees (Split m) = split_process (tree_at trees (Some m))
change_of trees (AfterLet x T m) = after_let x T (tree_at trees (Some m))
change_of trees (AfterNew x T) = after_new x T
change_of trees (Replace m) = λ old. tree_at trees (Some m)
change_of trees (Built parts) = λ old. top_of (stack_of trees parts)

-- what it names is in the pool, and its parts make one tree
abbrev pub TermIsLive : List KindTree → Change → Type 0
TermIsLive trees (Split m) = m.0 < length trees
TermIsLive trees (AfterLet x T m) = m.0 < length trees
TermIsLive trees (AfterNew x T) = Unit {0}
TermIsLive trees (Replace m) = m.0 < length trees
TermIsLive trees (Built parts) = AreLive (length trees) parts × (length (stack_of trees parts) ≡ 1)

-- how many nodes it makes of the part
abbrev pub nodes_of : Change → ℕ
nodes_of (Split m) = 3
nodes_of (AfterLet x T m) = 1
nodes_of (AfterNew x T) = 1
nodes_of (Replace m) = 0
nodes_of (Built parts) = made_by parts

-- how many are made, those above the place among them; more than a pool can have are asked for as the most that it can count

abbrev pub need_at : (place made : ℕ) → Tree → ℕ
need_at place made t = most_asked (nodes_above t place + made)

abbrev pub need_of : Tree → (place : ℕ) → Change → ℕ
need_of t place c = need_at place (nodes_of c) t
