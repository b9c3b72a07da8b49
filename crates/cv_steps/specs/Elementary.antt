-- The steps that stand by themselves: each with what it speaks of, and its row. A place is a preorder number, and what a step goes by
-- is a derivation. This profile's own.
use Rattle.std.specs.Prelude.{ℕ, ◌&&◌, ◌||◌}
use Rattle.cv_syntax_trees.specs.Tree.{Tree}
use Rattle.cv_scene.specs.Pruning.{Part}
use Rattle.cv_scene.specs.Scenes.{has_place, is_type, names}
use Rattle.cv_scene.specs.Terms.{is_term_at}
use Rattle.cv_steps.specs.Rows.{let_row, new_row, prune_row, rename_row, rewrite_row, split_row, unlet_row, unnew_row}
use Rattle.cv_steps.specs.Steps.{Step}

abbrev pub split_step : (place : ℕ) → (condition : Tree) → Step
split_step p m = record { stands = λ s. has_place s p && is_term_at s p m; row = λ s. split_row s p m }

abbrev pub let_step : (place x type : ℕ) → (term : Tree) → Step
let_step p x T m = record { stands = λ s. has_place s p && (is_type s T && is_term_at s p m); row = λ s. let_row s p x T m }

abbrev pub new_step : (place x type : ℕ) → Step
new_step p x T = record { stands = λ s. has_place s p && is_type s T; row = λ s. new_row s p x T }

abbrev pub unnew_step : (x : ℕ) → Step
unnew_step x = record { stands = λ s. s.known x || names x s.game; row = λ s. unnew_row s x }

abbrev pub rename_step : (x y : ℕ) → Step
rename_step x y = record { stands = λ s. s.known x || names x s.game; row = λ s. rename_row s x y }

abbrev pub unlet_step : (x : ℕ) → Step
unlet_step x = record { stands = λ s. s.known x || names x s.game; row = λ s. unlet_row s x }

abbrev pub rewrite_step : (place : ℕ) → (term by : Tree) → Step
rewrite_step p m by = record { stands = λ s. has_place s p && is_term_at s p m; row = λ s. rewrite_row s p m by }

abbrev pub prune_step : (place : ℕ) → (part : Part) → (by : Tree) → Step
prune_step p part by = record { stands = λ s. has_place s p; row = λ s. prune_row s p part by }
