-- Variables that come later than a place are not assigned where the place is visited. This profile's own.
use Rattle.std.specs.Prelude.{◌≡◌, ℕ, ◌+◌, ◌<◌, true, List, ◌++◌, Some, None}
use Rattle.std.specs.List.{AllByRecursion}
use Rattle.cv_syntax.specs.Layouts.{IsSyntax}
use Rattle.cv_syntax_trees.specs.Tree.{Tree, size}
use Rattle.cv_meaning.specs.Memory.{tuple}
use Rattle.cv_meaning.specs.Serving.{Visit}
use Rattle.cv_meaning.specs.Terms.{found_in}
use Rattle.cv_scope_rules.specs.Phrases.{Phrase, is_oracle_phrase}
use Rattle.cv_scene.specs.Late.{is_late}

-- the variable comes later in the visited construct too, and before the visit it is assigned at no outer part of the copy
pub record IsLateAt (v : Visit) (x rest : ℕ) : Type 0 where
  pub tree : is_late x v.tree rest ≡ true
  pub unassigned : (u more : List ℕ) → u ++ more ≡ tuple v.before.indices → v.before.memory.store x u ≡ None

-- so it is of each variable and each place of the visited construct
abbrev pub LateAreUnassigned : Tree → Visit → Type 0
LateAreUnassigned game v = IsSyntax v.tree → (x rest : ℕ) → rest < size v.tree → is_late x game (v.place + rest) ≡ true → IsLateAt v x rest

-- each current index is found by its name, and the visited tree is one of the grammar
pub record IsWellVisited (v : Visit) : Type 0 where
  pub found : AllByRecursion (λ (p : ℕ × ℕ). found_in v.before.indices p.0 ≡ Some p.1) v.before.indices
  pub phrase : Phrase
  pub is : is_oracle_phrase phrase v.tree ≡ true
