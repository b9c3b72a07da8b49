-- What walks over a game find in a part of it that they may pass over. This profile's own.
use Rattle.std.specs.Prelude.{ℕ, Bool, if◌then◌else◌, List, [], Option, None}
use Rattle.cv_syntax_trees.specs.Tree.{Tree}
use Rattle.cv_scope_rules.specs.declared.position.Position.{Position}
use Rattle.cv_scene.specs.Instances.{Matching}
use Rattle.cv_scene.specs.Refusals.{first_use}
use Rattle.cv_scene.specs.Sites.{Site, sites_in}

unfoldable pub sites_unless : (skip : Bool) → Matching → Position → List (ℕ × ℕ) → ℕ → Tree → List Site
sites_unless skip M w rs p t = if skip then [] else sites_in M w rs p t

unfoldable pub use_unless : (skip : Bool) → Matching → Position → ℕ → Tree → Option ℕ
use_unless skip M w p t = if skip then None else first_use M w p t
