-- How games change, when that can be done, and for how many nodes a pool is asked then. This profile's own.
use Rattle.std.specs.Prelude.{◌≡◌, ℕ, ◌+◌, ◌<◌, ◌^◌, List, length, unwrap_or, IsSome}
use Rattle.cv_pool.specs.KindTree.{KindTree}
use Rattle.cv_pool.specs.declared.pool.PoolError.{PoolError}
use Rattle.cv_pool.specs.declared.pool.PoolError.TheVariants as pool
use Rattle.cv_syntax.specs.declared.work.BuildError.{BuildError}
use Rattle.cv_syntax.specs.declared.work.BuildError.TheVariants as build
use Rattle.cv_syntax_trees.specs.Tree.{Tree, size}
use Rattle.cv_scene.specs.Pruning.{pruned}
use Rattle.cv_scene.specs.Scenes.{part_at}
use Rattle.cv_steps.specs.Changes.{change_at, only, without, without_body}
use Rattle.cv_steps.specs.Renaming.{renamed}
use Rattle.cv_edit_places.specs.declared.change.Change.{Change}
use Rattle.cv_edit_places.specs.Changes as changes
use Rattle.cv_edit_places.specs.Changes.{TermIsLive, change_of}
use Rattle.cv_edit_places.specs.Dropping.{need_without}
use Rattle.cv_edit_changes.specs.pruning.Bodies as pruning
use Rattle.cv_edit_changes.specs.pruning.Bodies.{part_of}
use Rattle.cv_edit_changes.specs.renaming.Needs.{need_renaming}
use Rattle.cv_edit_changes.specs.unletting.Games.{need_unletting, unlet}
use Rattle.cv_edit_names.specs.Needs.{need_splitting}
use Rattle.cv_edit_names.specs.Splitting.{split_game}
use Rattle.cv_rule.specs.declared.edit.edit.Edit.{Edit}
use Rattle.cv_rule.specs.declared.edit.edit.Edit.TheVariants.{At, Without, Renamed, Unlet, Split, WithoutBody}

-- the game that an edit makes of a game
abbrev pub edited : List KindTree → Tree → Edit → Tree
edited trees game (At p c) = change_at game p (change_of trees c)
edited trees game (Without x) = without (only x) game
edited trees game (Renamed x y) = renamed x y game
edited trees game (Unlet x) = unwrap_or (unlet x game) game
edited trees game (Split x names) = split_game x names.items game
edited trees game (WithoutBody p body) = change_at game p (without_body p (part_of body))

-- for how many nodes the pool is asked then
abbrev pub need_of : Tree → Edit → ℕ
need_of game (At p c) = changes.need_of game p c
need_of game (Without x) = need_without x game
need_of game (Renamed x y) = need_renaming x game
need_of game (Unlet x) = need_unletting x game
need_of game (Split x names) = need_splitting x names.items game
need_of game (WithoutBody p body) = pruning.need_of game p (part_of body)

-- the place is in the game, what is put there is in the pool, and the game with it can be measured
pub record CanChange (trees : List KindTree) (game : Tree) (p : ℕ) (c : Change) : Type 0 where
  pub live : TermIsLive trees c
  pub fits : size game + size (change_of trees c (part_at game p)) < 2 ^ 32
  pub there : p < size game

-- what changes is in the game
abbrev pub CanBeMade : List KindTree → Tree → Edit → Type 0
CanBeMade trees game (At p c) = CanChange trees game p c
CanBeMade trees game (Without x) = Unit {0}
CanBeMade trees game (Renamed x y) = Unit {0}
CanBeMade trees game (Unlet x) = IsSome (unlet x game)
CanBeMade trees game (Split x names) = 0 < length names.items
CanBeMade trees game (WithoutBody p body) = IsSome (pruned p (part_at game p) (part_of body))

abbrev pub of_pool : PoolError → BuildError
of_pool (pool.Full need) = build.Full need
of_pool pool.OutOfMemory = build.OutOfMemory

-- no game is made: a pool with so many nodes has no room for as many as are needed, or memory ran out
abbrev pub IsEditFault : (limit live need : ℕ) → BuildError → Type 0
IsEditFault limit live need (build.Full n) = (n ≡ need) × (limit < live + n)
IsEditFault limit live need build.OutOfMemory = Unit {0}
IsEditFault limit live need other = ⊥
