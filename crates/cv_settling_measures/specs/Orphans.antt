-- Variables that a next game reads, and that have lost their definitions. This profile's own.
use Rattle.std.specs.Prelude.{◌≡◌, ℕ, Bool, true, false, ◌&&◌, not}
use Rattle.std.specs.List.{list_any}
use Rattle.cv_syntax_trees.specs.Tree.{Tree}
use Rattle.cv_meaning_chances.specs.unread.Dropping.{reads_none}
use Rattle.cv_scene.specs.Terms.{has_site}
use Rattle.cv_steps.specs.Changes.{only}
use Rattle.cv_settling_rules.specs.Variables.{variables}

pub record IsOrphan (game next : Tree) (x : ℕ) : Type 0 where
  pub before : has_site game x ≡ true
  pub after : has_site next x ≡ false
  pub read : reads_none (only x) next ≡ false

abbrev pub HasNoOrphan : (game next : Tree) → Type 0
HasNoOrphan game next = (x : ℕ) → IsOrphan game next x → ⊥

-- the test of it, variable by variable

abbrev pub is_orphan : (next : Tree) → ℕ → Bool
is_orphan next x = not (has_site next x) && not (reads_none (only x) next)

abbrev pub has_orphan : (game next : Tree) → Bool
has_orphan game next = list_any (is_orphan next) (variables game)
