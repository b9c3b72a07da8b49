-- Where all conditions of a step hold, what its row leads to, and what is there to be changed; a place that no game has is refused.
use Rattle.std.proofs.Common.{◌≡◌, ℕ, ◌<◌, ◌≤◌, Bool, true, false, not, ◌&&◌, nat_lt, if◌then◌else◌, Option, Some, None, refl, sym, ap, ◌∙◌, arith}
use Rattle.std.proofs.lemmas.Bool.Decides.{nat_tests}
use Rattle.std.specs.Prelude.{◌||◌, IsSome, option_map, unwrap_or}
use Rattle.cv_syntax_trees.specs.Tree.{Tree, size}
use Rattle.cv_scene.specs.lines.Ends.{ends_with}
use Rattle.cv_scene.specs.lines.Targets.{equality, falsity}
use Rattle.cv_scene.specs.Derivations.{first_bad_line}
use Rattle.cv_scene.specs.Pruning.{Part, Pruned, pruned}
use Rattle.cv_scene.specs.Scenes.{Scene, first_reading, has_place, is_chosen, is_new, is_output_at, is_queried, is_type, part_at}
use Rattle.cv_scene.specs.Sights.{sight_at}
use Rattle.cv_scene.specs.Terms.{has_site, is_bool_at, is_term_at}
use Rattle.cv_steps.specs.Changes.{after_let, after_new, change_at, left_or, only, split_process, without, without_body}
use Rattle.cv_steps.specs.Elementary.{let_step, new_step, prune_step, rename_step, rewrite_step, split_step, unlet_step, unnew_step}
use Rattle.cv_steps.specs.Renaming.{renamed}
use Rattle.cv_steps.specs.Rewriting.{has_sort_of, is_rewritable_at, sort_at}
use Rattle.cv_steps.specs.Rows.{let_row, new_row, prune_row, prune_row_by, rename_row, rewrite_row, split_row, unless, unless_at, unless_derived, unlet_row, unlet_row_by, unnew_row}
use Rattle.cv_steps.specs.Steps.{Leads, Row, Step, Zero}
use Rattle.cv_steps.specs.Unletting.{Assignment, is_listed, only_assignment, without_assignment}
use Rattle.cv_edit_places.specs.Plans.{failed, failing, failure_of}
use Rattle.cv_syntax_trees.proofs.lists.Tests.{and_first}

-- rows of which no condition fails

holds : (b : Bool) (condition place : ℕ) (row : Row) → failing (unless b condition place row) ≡ None → (unless b condition place row ≡ row) × (failing row ≡ None)
holds true condition place row e = (refl, e)
holds false condition place row e = absurd (cc)

holds_at : (condition : ℕ) (o : Option ℕ) (row : Row) → failing (unless_at condition o row) ≡ None → unless_at condition o row ≡ row
holds_at condition None row e = refl
holds_at condition (Some place) row e = absurd (cc)

derived : (s : Scene) (p : ℕ) (by targets : Tree) (condition end : ℕ) (rest : Row) → failing (unless_derived s p by targets condition end rest) ≡ None → unless_derived s p by targets condition end rest ≡ rest
derived s p by targets condition end rest e =
    let a = holds_at condition (first_bad_line (sight_at s p) by) (unless (ends_with by targets) end 0 rest) e in
    a ∙ (holds (ends_with by targets) end 0 rest (ap failing (sym a) ∙ e)).0

-- a step whose conditions hold stands

stood_by : (row : Row) (b : Bool) → (if b then failing row else Some (failed 0 0)) ≡ None → (b ≡ true) × (failing row ≡ None)
stood_by row true e = (refl, e)
stood_by row false e = absurd (cc)

pub stood : (s : Scene) (x : Step) → failure_of s x ≡ None → (x.stands s ≡ true) × (failing (x.row s) ≡ None)
stood s x e = stood_by (x.row s) (x.stands s) e

is_there : (s : Scene) (p : ℕ) → has_place s p ≡ true → p < size s.game
is_there s p e = grind (arith, nat_tests)

has_first : (s : Scene) (p : ℕ) (b : Bool) → (has_place s p && b) ≡ true → p < size s.game
has_first s p b e = is_there s p (and_first (has_place s p) b e)

-- each step by itself: its row leads to this game, and its place is there

module _ (s : Scene) (p : ℕ) where
  pub split_leads : (m : Tree) → failure_of s (split_step p m) ≡ None → (split_row s p m ≡ Leads (change_at s.game p (split_process m)) Zero) × (p < size s.game)
  split_leads m e =
      let w = stood s (split_step p m) e in
      let a = holds (is_output_at s p) 1 0 _ w.1 in
      (a.0 ∙ (holds (is_bool_at s p m) 2 0 _ a.1).0, has_first s p (is_term_at s p m) w.0)

  pub let_leads : (x T : ℕ) (m : Tree) → failure_of s (let_step p x T m) ≡ None → (let_row s p x T m ≡ Leads (change_at s.game p (after_let x T m)) Zero) × (p < size s.game)
  let_leads x T m e =
      let w = stood s (let_step p x T m) e in
      let a = holds (is_output_at s p) 1 0 _ w.1 in
      (a.0 ∙ (holds (is_new s x) 2 0 _ a.1).0, has_first s p (is_type s T && is_term_at s p m) w.0)

  pub new_leads : (x T : ℕ) → failure_of s (new_step p x T) ≡ None → (new_row s p x T ≡ Leads (change_at s.game p (after_new x T)) Zero) × (p < size s.game)
  new_leads x T e =
      let w = stood s (new_step p x T) e in
      let a = holds (is_output_at s p) 1 0 _ w.1 in
      (a.0 ∙ (holds (is_new s x) 2 0 _ a.1).0, has_first s p (is_type s T) w.0)

  pub rewrite_leads : (m by : Tree) → failure_of s (rewrite_step p m by) ≡ None → (rewrite_row s p m by ≡ Leads (change_at s.game p (λ old. m)) Zero) × (p < size s.game)
  rewrite_leads m by e =
      let w = stood s (rewrite_step p m by) e in
      let a = holds (is_rewritable_at s p) 1 p _ w.1 in
      let b = holds (has_sort_of (sort_at s p (part_at s.game p)) (sort_at s p m)) 2 0 _ a.1 in
      (a.0 ∙ (b.0 ∙ derived s p by (equality (part_at s.game p) m) 3 4 (Leads (change_at s.game p (λ old. m)) Zero) b.1), has_first s p (is_term_at s p m) w.0)

  prunes : (by : Tree) (o : Option Pruned) → failing (prune_row_by s p by o) ≡ None → (prune_row_by s p by o ≡ Leads (change_at s.game p (λ old. left_or old o)) Zero) × IsSome o
  prunes by None e = absurd (cc)
  prunes by (Some b) e = (derived s b.body by falsity 2 3 (Leads (change_at s.game p (λ old. b.left)) Zero) e, refl)

  pub prune_leads : (part : Part) (by : Tree) → failure_of s (prune_step p part by) ≡ None → (prune_row s p part by ≡ Leads (change_at s.game p (without_body p part)) Zero) × IsSome (pruned p (part_at s.game p) part)
  prune_leads part by e = prunes by (pruned p (part_at s.game p) part) (stood s (prune_step p part by) e).1

module _ (s : Scene) (x : ℕ) where
  pub unnew_leads : failure_of s (unnew_step x) ≡ None → unnew_row s x ≡ Leads (without (only x) s.game) Zero
  unnew_leads e =
      let a = holds (is_chosen s x) 1 0 _ (stood s (unnew_step x) e).1 in
      let b = holds (not (is_queried s x)) 2 0 _ a.1 in
      a.0 ∙ (b.0 ∙ holds_at 2 (first_reading x 0 s.game) _ b.1)

  pub rename_leads : (y : ℕ) → failure_of s (rename_step x y) ≡ None → rename_row s x y ≡ Leads (renamed x y s.game) Zero
  rename_leads y e =
      let a = holds (has_site s.game x) 1 0 _ (stood s (rename_step x y) e).1 in
      let b = holds (is_new s y) 2 0 _ a.1 in
      a.0 ∙ (b.0 ∙ (holds (not (is_queried s x)) 3 0 _ b.1).0)

  abbrev unlet_by : Option Assignment → Option Tree
  unlet_by o = option_map (λ d. without_assignment x d s.game) o

  unlets : (o : Option Assignment) → failing (unlet_row_by s x o) ≡ None → (unlet_row_by s x o ≡ Leads (unwrap_or (unlet_by o) s.game) Zero) × IsSome (unlet_by o)
  unlets None e = absurd (cc)
  unlets (Some d) e = ((holds (not (is_queried s x || is_listed x s.game)) 2 0 _ e).0, refl)

  pub unlet_leads : failure_of s (unlet_step x) ≡ None → (unlet_row s x ≡ Leads (unwrap_or (unlet_by (only_assignment s.game x)) s.game) Zero) × IsSome (unlet_by (only_assignment s.game x))
  unlet_leads e = unlets (only_assignment s.game x) (stood s (unlet_step x) e).1

-- a place that the game doesn't have

absent : (p n : ℕ) → n ≤ p → nat_lt p n ≡ false
absent p n l = grind (arith, nat_tests)

module _ (s : Scene) (p : ℕ) (l : size s.game ≤ p) where
  pub split_stands_not : (m : Tree) → (split_step p m).stands s ≡ false
  split_stands_not m = ap (λ b. b && is_term_at s p m) (absent p (size s.game) l)

  pub let_stands_not : (x T : ℕ) (m : Tree) → (let_step p x T m).stands s ≡ false
  let_stands_not x T m = ap (λ b. b && (is_type s T && is_term_at s p m)) (absent p (size s.game) l)

  pub new_stands_not : (x T : ℕ) → (new_step p x T).stands s ≡ false
  new_stands_not x T = ap (λ b. b && is_type s T) (absent p (size s.game) l)

  pub rewrite_stands_not : (m by : Tree) → (rewrite_step p m by).stands s ≡ false
  rewrite_stands_not m by = ap (λ b. b && is_term_at s p m) (absent p (size s.game) l)

  pub prune_stands_not : (part : Part) (by : Tree) → (prune_step p part by).stands s ≡ false
  prune_stands_not part by = absent p (size s.game) l
