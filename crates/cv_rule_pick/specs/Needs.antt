-- For how many nodes a pool is asked where a body takes the place of its `find`. This profile's own.
use Rattle.std.specs.Prelude.{ℕ, ◌+◌, List, Option, Some, None}
use Rattle.cv_syntax_trees.specs.Tree.{Tree, Empty, Node}
use Rattle.cv_scope_rules.specs.Context.{cells_of, known_at}
use Rattle.cv_scene.specs.Scenes.{part_at}
use Rattle.cv_scene.specs.Terms.{replications_by}
use Rattle.cv_edit_places.specs.Changes.{need_at}
use Rattle.cv_rule_pick.specs.Picking.{Arm, only_arm, term_of}

-- none is made of a term that is put, and one of each other node
abbrev pub unless_put : Option Tree → ℕ → ℕ
unless_put None n = n
unless_put (Some m) n = 0

unfoldable pub made_with : List Tree → (terms : Tree) → Tree → ℕ
made_with cs ms Empty = 0
made_with cs ms (Node h a b) = unless_put (term_of cs ms (Node h a b)) (made_with cs ms a + made_with cs ms b + 1)

abbrev pub made_by_arm : (game : Tree) → (place : ℕ) → (terms : Tree) → Option Arm → ℕ
made_by_arm game p ms None = 0
made_by_arm game p ms (Some a) = made_with (cells_of (replications_by (known_at game p)) a.binders) ms a.body

abbrev pub made_of_pick : (place : ℕ) → (terms game : Tree) → ℕ
made_of_pick p ms game = made_by_arm game p ms (only_arm (part_at game p))

abbrev pub need_picking : (place : ℕ) → (terms game : Tree) → ℕ
need_picking p ms game = need_at p (made_of_pick p ms game) game
