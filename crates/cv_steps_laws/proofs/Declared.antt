-- The eight elementary steps keep that types and parameters are declared.
use Rattle.std.proofs.Common.{◌≡◌, ℕ, true, not, ap, subst, ◌∙◌}
use Rattle.std.proofs.lemmas.Bool.{and_parts}
use Rattle.cv_syntax_trees.specs.Tree.{Tree}
use Rattle.cv_meaning_runs.specs.Replacement.{Process}
use Rattle.cv_scope_rules.specs.Phrases.{Inputs, is_phrase}
use Rattle.cv_typing_runs.specs.Games.{HasDeclaredSorts}
use Rattle.cv_scene.specs.Pruning.{Part}
use Rattle.cv_scene.specs.Scenes.{Scene, is_chosen, is_new, is_output_at, is_queried, first_reading, has_place, is_type, part_at}
use Rattle.cv_scene.specs.Terms.{is_bool_at}
use Rattle.cv_steps.specs.Changes.{change_at, split_process, after_let, after_new, without, only}
use Rattle.cv_steps.specs.Elementary.{let_step, new_step, prune_step, rename_step, rewrite_step, split_step, unlet_step, unnew_step}
use Rattle.cv_steps.specs.Steps.{Zero}
use Rattle.cv_steps.proofs.Comes.{placed}
use Rattle.cv_steps.proofs.Pruned.{prune_leads, pruned_output}
use Rattle.cv_steps.proofs.Rewritten.{rewrite_leads}
use Rattle.cv_steps.proofs.Rows.{leads_same, unless_leads, unless_at_leads}
use Rattle.cv_steps_laws.specs.Keeping.{KeepsDeclaredSorts}
use Rattle.cv_steps_laws.proofs.Gone.{dropped_game}
use Rattle.cv_steps_laws.proofs.Keeping.{accepted, term_phrase}
use Rattle.cv_steps_laws.proofs.Renamed.{declared_renamed, rename_leads}
use Rattle.cv_steps_laws.proofs.Sorts.{declared_dropped, declared_replaced, declared_rewritten, left_declared, sorts_kept, term_declared, type_declared}
use Rattle.cv_steps_laws.proofs.Unletted.{unlet_leads, unletted_kept}
use Rattle.cv_steps_laws.proofs.Unnamed.{unlisted_unread}

-- a game with what stands at a place changed
pub declared_there : (s : Scene) (p : ℕ) (change : Tree → Tree) → is_phrase Inputs s.game ≡ true → is_output_at s p ≡ true → (HasDeclaredSorts s.declarations (part_at s.game p) → HasDeclaredSorts s.declarations (change (part_at s.game p))) → HasDeclaredSorts s.declarations s.game → HasDeclaredSorts s.declarations (change_at s.game p change)
declared_there s p change w o k d = declared_replaced s.declarations (part_at s.game p) (change (part_at s.game p)) p k Process 0 s.game (change_at s.game p change) (placed s.game p change w o) d

pub split_declared : (p : ℕ) (m : Tree) → KeepsDeclaredSorts (split_step p m)
unfolding HasDeclaredSorts
split_declared p m s next cost w d e =
    let r = accepted s (split_step p m) next cost e in
    let o = unless_leads (is_output_at s p) 1 0 _ next cost r.row in
    let q = unless_leads (is_bool_at s p m) 2 0 _ next cost o.1 in
    let t = term_declared s.declarations m (term_phrase s p m (and_parts (has_place s p) _ r.stands).1) in
    subst (HasDeclaredSorts s.declarations) (leads_same _ next Zero cost q.1) (declared_there s p (split_process m) w o.0 (λ x. (tt, t, (tt, x, (tt, x, tt)))) d)

pub let_declared : (p x T : ℕ) (m : Tree) → KeepsDeclaredSorts (let_step p x T m)
unfolding HasDeclaredSorts
let_declared p x T m s next cost w d e =
    let r = accepted s (let_step p x T m) next cost e in
    let o = unless_leads (is_output_at s p) 1 0 _ next cost r.row in
    let q = unless_leads (is_new s x) 2 0 _ next cost o.1 in
    let i = and_parts (is_type s T) _ (and_parts (has_place s p) _ r.stands).1 in
    let t = term_declared s.declarations m (term_phrase s p m i.1) in
    subst (HasDeclaredSorts s.declarations) (leads_same _ next Zero cost q.1) (declared_there s p (after_let x T m) w o.0 (λ y. (type_declared s.declarations T i.0, t, y)) d)

pub new_declared : (p x T : ℕ) → KeepsDeclaredSorts (new_step p x T)
unfolding HasDeclaredSorts
new_declared p x T s next cost w d e =
    let r = accepted s (new_step p x T) next cost e in
    let o = unless_leads (is_output_at s p) 1 0 _ next cost r.row in
    let q = unless_leads (is_new s x) 2 0 _ next cost o.1 in
    let i = and_parts (has_place s p) _ r.stands in
    subst (HasDeclaredSorts s.declarations) (leads_same _ next Zero cost q.1) (declared_there s p (after_new x T) w o.0 (λ y. (type_declared s.declarations T i.1, tt, y)) d)

pub unnew_declared : (x : ℕ) → KeepsDeclaredSorts (unnew_step x)
unnew_declared x s next cost w d e =
    let r = accepted s (unnew_step x) next cost e in
    let a = unless_leads (is_chosen s x) 1 0 _ next cost r.row in
    let q = unless_leads (not (is_queried s x)) 2 0 _ next cost a.1 in
    let o = unless_at_leads 2 (first_reading x 0 s.game) _ next cost q.1 in
    subst (HasDeclaredSorts s.declarations) (leads_same _ next Zero cost o.1)
    (declared_dropped s.declarations (only x) Process s.game (without (only x) s.game) (dropped_game (only x) s.game w (unlisted_unread x 0 s.game o.0)) d)

pub rename_declared : (x y : ℕ) → KeepsDeclaredSorts (rename_step x y)
rename_declared x y s next cost w d e =
    let z = rename_leads s x y next cost (accepted s (rename_step x y) next cost e).row in
    subst (HasDeclaredSorts s.declarations) z.leads (declared_renamed s.declarations x y s.game d)

pub unlet_declared : (x : ℕ) → KeepsDeclaredSorts (unlet_step x)
unlet_declared x s next cost w d e =
    let r = accepted s (unlet_step x) next cost e in
    let z = unlet_leads s x next cost r.row in
    let phrase : is_phrase Inputs next ≡ true = (and_parts (is_phrase Inputs next) _ r.game).0 in
    subst (HasDeclaredSorts s.declarations) z.leads
    (unletted_kept (HasDeclaredSorts s.declarations) (sorts_kept s.declarations) x z.assignment s.game w (ap (is_phrase Inputs) z.leads ∙ phrase) d)

pub rewrite_declared : (p : ℕ) (m by : Tree) → KeepsDeclaredSorts (rewrite_step p m by)
rewrite_declared p m by s next cost w d e =
    let r = accepted s (rewrite_step p m by) next cost e in
    let z = rewrite_leads s p m by next cost r.row in
    let t = term_declared s.declarations m (term_phrase s p m (and_parts (has_place s p) _ r.stands).1) in
    subst (HasDeclaredSorts s.declarations) z.leads (declared_rewritten s.declarations m t Inputs s.game p z.stands d)

pub prune_declared : (p : ℕ) (part : Part) (by : Tree) → KeepsDeclaredSorts (prune_step p part by)
prune_declared p part by s next cost w d e =
    let r = accepted s (prune_step p part by) next cost e in
    let z = prune_leads s p part by next cost r.row in
    subst (HasDeclaredSorts s.declarations) z.leads
    (declared_there s p (λ old. z.gone.left) w (pruned_output p (part_at s.game p) part z.gone z.stands) (left_declared s.declarations p (part_at s.game p) part z.gone z.stands) d)
