-- Reads in conditions of a `find`, where a walk may already be within one. This profile's own.
use Rattle.std.specs.Prelude.{ℕ, Bool, if◌then◌else◌, Option}
use Rattle.cv_syntax_trees.specs.Tree.{Tree}
use Rattle.cv_scope_rules.specs.declared.position.Position.{Position}
use Rattle.cv_scene.specs.Scenes.{first_reading}
use Rattle.cv_scene.specs.Refusals.{first_in_condition}

-- the first place in a condition, or anywhere in a part of one, where the variable is read
unfoldable pub use_within : (within : Bool) → ℕ → Position → ℕ → Tree → Option ℕ
use_within within x w p t = if within then first_reading x p t else first_in_condition x w p t
