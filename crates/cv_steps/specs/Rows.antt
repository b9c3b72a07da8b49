-- The rows of steps: the first condition that fails, with its place, or the next game and the cost. This profile's own.
use Rattle.std.specs.Prelude.{ℕ, Bool, not, ◌||◌, if◌then◌else◌, Option, Some, None}
use Rattle.cv_syntax_trees.specs.Tree.{Tree}
use Rattle.cv_scene.specs.lines.Ends.{ends_with}
use Rattle.cv_scene.specs.Scenes.{Scene, is_output_at, is_new, is_queried, is_chosen, first_reading, part_at}
use Rattle.cv_scene.specs.Sights.{sight_at}
use Rattle.cv_scene.specs.Derivations.{first_bad_line}
use Rattle.cv_scene.specs.Pruning.{Part, Pruned, pruned}
use Rattle.cv_steps.specs.Steps.{Row, Fails, Leads, Zero}
use Rattle.cv_scene.specs.lines.Targets.{equality, falsity}
use Rattle.cv_steps.specs.Rewriting.{has_sort_of, is_rewritable_at, sort_at}
use Rattle.cv_steps.specs.Changes.{change_at, split_process, after_let, after_new, without, only}
use Rattle.cv_steps.specs.Renaming.{renamed}
use Rattle.cv_steps.specs.Unletting.{Assignment, is_listed, only_assignment, without_assignment}
use Rattle.cv_scene.specs.Terms.{has_site, is_bool_at}

-- the rest of a row, unless this condition fails
abbrev pub unless : Bool → (condition place : ℕ) → Row → Row
unless holds condition place rest = if holds then rest else Fails condition place

-- the same, where a condition fails at a place, if there is one
abbrev pub unless_at : (condition : ℕ) → Option ℕ → Row → Row
unless_at condition None rest = rest
unless_at condition (Some place) rest = Fails condition place

abbrev pub split_row : Scene → (place : ℕ) → (condition : Tree) → Row
split_row s p m = unless (is_output_at s p) 1 0 (unless (is_bool_at s p m) 2 0 (Leads (change_at s.game p (split_process m)) Zero))

abbrev pub let_row : Scene → (place x type : ℕ) → (term : Tree) → Row
let_row s p x T m = unless (is_output_at s p) 1 0 (unless (is_new s x) 2 0 (Leads (change_at s.game p (after_let x T m)) Zero))

abbrev pub new_row : Scene → (place x type : ℕ) → Row
new_row s p x T = unless (is_output_at s p) 1 0 (unless (is_new s x) 2 0 (Leads (change_at s.game p (after_new x T)) Zero))

-- a query stands before all places
abbrev pub unnew_row : Scene → (x : ℕ) → Row
unnew_row s x =
    unless (is_chosen s x) 1 0
    (unless (not (is_queried s x)) 2 0
    (unless_at 2 (first_reading x 0 s.game) (Leads (without (only x) s.game) Zero)))

abbrev pub rename_row : Scene → (x y : ℕ) → Row
rename_row s x y =
    unless (has_site s.game x) 1 0 (unless (is_new s y) 2 0 (unless (not (is_queried s x)) 3 0 (Leads (renamed x y s.game) Zero)))

-- a query and a `defined` list stand before all places
abbrev pub unlet_row_by : Scene → (x : ℕ) → Option Assignment → Row
unlet_row_by s x None = Fails 1 0
unlet_row_by s x (Some d) =
    unless (not (is_queried s x || is_listed x s.game)) 2 0 (Leads (without_assignment x d s.game) Zero)

abbrev pub unlet_row : Scene → (x : ℕ) → Row
unlet_row s x = unlet_row_by s x (only_assignment s.game x)

-- a derivation at a place, each line of which is right and which ends with the targets, and else the rest fails: at the number of
-- a line by one condition, and by the next where only its end is another
abbrev pub unless_derived : Scene → (place : ℕ) → (by targets : Tree) → (condition end : ℕ) → Row → Row
unless_derived s p by targets condition end rest =
    unless_at condition (first_bad_line (sight_at s p) by) (unless (ends_with by targets) end 0 rest)

abbrev pub rewrite_row : Scene → (place : ℕ) → (term by : Tree) → Row
rewrite_row s p m by =
    unless (is_rewritable_at s p) 1 p
    (unless (has_sort_of (sort_at s p (part_at s.game p)) (sort_at s p m)) 2 0
    (unless_derived s p by (equality (part_at s.game p) m) 3 4
    (Leads (change_at s.game p (λ old. m)) Zero)))

abbrev pub prune_row_by : Scene → (place : ℕ) → (by : Tree) → Option Pruned → Row
prune_row_by s p by None = Fails 1 0
prune_row_by s p by (Some b) = unless_derived s b.body by falsity 2 3 (Leads (change_at s.game p (λ old. b.left)) Zero)

abbrev pub prune_row : Scene → (place : ℕ) → Part → (by : Tree) → Row
prune_row s p part by = prune_row_by s p by (pruned p (part_at s.game p) part)
