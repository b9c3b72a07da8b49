-- The eight elementary steps cost nothing.
use Rattle.std.proofs.Common.{ℕ, not, ◌||◌, Option, Some, None}
use Rattle.cv_syntax_trees.specs.Tree.{Tree}
use Rattle.cv_scene.specs.lines.Ends.{ends_with}
use Rattle.cv_scene.specs.lines.Targets.{equality, falsity}
use Rattle.cv_scene.specs.Derivations.{first_bad_line}
use Rattle.cv_scene.specs.Pruning.{Part, Pruned, pruned}
use Rattle.cv_scene.specs.Scenes.{Scene, first_reading, is_chosen, is_new, is_output_at, is_queried, part_at}
use Rattle.cv_scene.specs.Sights.{sight_at}
use Rattle.cv_scene.specs.Terms.{has_site, is_bool_at}
use Rattle.cv_steps.specs.Rewriting.{has_sort_of, is_rewritable_at, sort_at}
use Rattle.cv_steps.specs.Rows.{let_row, new_row, prune_row, prune_row_by, rename_row, rewrite_row, split_row, unlet_row, unlet_row_by, unnew_row}
use Rattle.cv_steps.specs.Unletting.{Assignment, is_listed, only_assignment}
use Rattle.cv_steps.proofs.Rows.{IsFree, free_fails, free_leads, free_unless, free_unless_at}

pub split_free : (s : Scene) (p : ℕ) (m : Tree) → IsFree (split_row s p m)
split_free s p m = free_unless (is_output_at s p) 1 0 _ (free_unless (is_bool_at s p m) 2 0 _ (free_leads _))

pub let_free : (s : Scene) (p x T : ℕ) (m : Tree) → IsFree (let_row s p x T m)
let_free s p x T m = free_unless (is_output_at s p) 1 0 _ (free_unless (is_new s x) 2 0 _ (free_leads _))

pub new_free : (s : Scene) (p x T : ℕ) → IsFree (new_row s p x T)
new_free s p x T = free_unless (is_output_at s p) 1 0 _ (free_unless (is_new s x) 2 0 _ (free_leads _))

pub unnew_free : (s : Scene) (x : ℕ) → IsFree (unnew_row s x)
unnew_free s x = free_unless (is_chosen s x) 1 0 _ (free_unless (not (is_queried s x)) 2 0 _ (free_unless_at 2 (first_reading x 0 s.game) _ (free_leads _)))

pub rename_free : (s : Scene) (x y : ℕ) → IsFree (rename_row s x y)
rename_free s x y = free_unless (has_site s.game x) 1 0 _ (free_unless (is_new s y) 2 0 _ (free_unless (not (is_queried s x)) 3 0 _ (free_leads _)))

unlet_by : (s : Scene) (x : ℕ) (o : Option Assignment) → IsFree (unlet_row_by s x o)
unlet_by s x None = free_fails 1 0
unlet_by s x (Some d) = free_unless (not (is_queried s x || is_listed x s.game)) 2 0 _ (free_leads _)

pub unlet_free : (s : Scene) (x : ℕ) → IsFree (unlet_row s x)
unlet_free s x = unlet_by s x (only_assignment s.game x)

pub rewrite_free : (s : Scene) (p : ℕ) (m by : Tree) → IsFree (rewrite_row s p m by)
rewrite_free s p m by =
    free_unless (is_rewritable_at s p) 1 p _
    (free_unless (has_sort_of (sort_at s p (part_at s.game p)) (sort_at s p m)) 2 0 _
    (free_unless_at 3 (first_bad_line (sight_at s p) by) _ (free_unless (ends_with by (equality (part_at s.game p) m)) 4 0 _ (free_leads _))))

prune_by : (s : Scene) (p : ℕ) (by : Tree) (o : Option Pruned) → IsFree (prune_row_by s p by o)
prune_by s p by None = free_fails 1 0
prune_by s p by (Some b) = free_unless_at 2 (first_bad_line (sight_at s b.body) by) _ (free_unless (ends_with by falsity) 3 0 _ (free_leads _))

pub prune_free : (s : Scene) (p : ℕ) (part : Part) (by : Tree) → IsFree (prune_row s p part by)
prune_free s p part by = prune_by s p by (pruned p (part_at s.game p) part)
