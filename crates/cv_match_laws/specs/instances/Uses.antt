-- How often a game uses a variable outside its sites, and in them. This profile's own.
use Rattle.std.specs.Prelude.{◌≡◌, ℕ, ◌+◌, if◌then◌else◌, List, [], ◌∷◌, slice_get, Some, None}
use Rattle.cv_syntax_trees.specs.Tree.{Tree, Empty, Node}
use Rattle.cv_scope_rules.specs.declared.position.Position.{Position}
use Rattle.cv_scope_rules.specs.Context.{first_position, second_position}
use Rattle.cv_scene.specs.Scenes.{head_reads}
use Rattle.cv_scene.specs.Instances.{Matching, call_at}
use Rattle.cv_scene.specs.Refusals.{uses}
use Rattle.cv_scene.specs.Sites.{Site, is_guard}

-- outside sites; in `defined` lists and conditions each use counts
unfoldable pub uses_outside : Matching → Position → ℕ → Tree → ℕ
uses_outside M w x Empty = 0
uses_outside M w x (Node h a b) = elim (call_at M (Node h a b)) [
  | Some c ↦ 0
  | None ↦ (if head_reads x h then 1 else 0) + ((if is_guard w then uses x a else uses_outside M (first_position w h) x a) + uses_outside M (second_position w h) x b)
]

-- in the terms of sites
abbrev pub uses_in : ℕ → List Site → ℕ
uses_in x [] = 0
uses_in x (s ∷ ss) = uses x s.term + uses_in x ss

-- the variable is used at this site of a list alone
pub record IsUsedAt (x number : ℕ) (ss : List Site) : Type 0 where
  pub others : (k : ℕ) (s : Site) → slice_get ss k ≡ Some s → (k ≡ number → ⊥) → uses x s.term ≡ 0
