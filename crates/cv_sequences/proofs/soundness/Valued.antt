-- The eight elementary steps keep that each choice and test has a value.
use Rattle.std.proofs.Common.{◌≡◌, ℕ, true, false, not, ap, subst, ◌∙◌}
use Rattle.std.proofs.lemmas.Bool.{and_parts}
use Rattle.cv_syntax_trees.specs.Tree.{Tree}
use Rattle.cv_meaning.specs.Interpretation.{Interpretation, setting_of}
use Rattle.cv_meaning.specs.Runs.{Mode}
use Rattle.cv_meaning.specs.Satisfies.{Satisfies}
use Rattle.cv_meaning_runs.specs.Replacement.{Process}
use Rattle.cv_meaning_chances.specs.values.Values.{HasValuesIn, is_tested}
use Rattle.cv_scope_rules.specs.Phrases.{Inputs, is_phrase}
use Rattle.cv_scene.specs.Pruning.{Part}
use Rattle.cv_scene.specs.Scenes.{Scene, is_output_at, is_chosen, is_new, is_queried, first_reading, has_place, is_type, part_at}
use Rattle.cv_scene.specs.Terms.{is_bool_at}
use Rattle.cv_steps.specs.Changes.{split_process, after_let, after_new, without, only}
use Rattle.cv_steps.specs.Elementary.{let_step, new_step, prune_step, rename_step, rewrite_step, split_step, unlet_step, unnew_step}
use Rattle.cv_steps.specs.Judgements.{Accepted, judgement_of}
use Rattle.cv_steps.specs.Steps.{Cost, Step, Zero}
use Rattle.cv_steps.proofs.Flat.{term_still}
use Rattle.cv_steps.proofs.Pruned.{left_keeps, prune_leads, pruned_output}
use Rattle.cv_steps.proofs.Rewritten.{rewrite_leads}
use Rattle.cv_steps.proofs.Rows.{leads_same, unless_leads, unless_at_leads}
use Rattle.cv_steps_laws.proofs.Gone.{dropped_game}
use Rattle.cv_steps_laws.proofs.Keeping.{accepted, term_phrase}
use Rattle.cv_steps_laws.proofs.Renamed.{rename_leads}
use Rattle.cv_steps_laws.proofs.Unletted.{unlet_leads, unletted_kept}
use Rattle.cv_steps_laws.proofs.Unnamed.{unlisted_unread}
use Rattle.cv_steps_laws.proofs.Values.{still_values, type_value, values_changed, values_dropped, values_kept, values_put, values_renamed}

-- where no new name is tested
abbrev pub KeepsValues : Step → Type 0
KeepsValues x =
    (s : Scene) (next : Tree) (cost : Cost) → is_phrase Inputs s.game ≡ true → (i : Interpretation) → Satisfies s.declarations i → (m : Mode)
    → ((y : ℕ) → is_new s y ≡ true → is_tested m y ≡ false) → HasValuesIn (setting_of s.declarations i) m s.game
    → judgement_of s x ≡ Accepted next cost → HasValuesIn (setting_of s.declarations i) m next

pub split_valued : (p : ℕ) (t : Tree) → KeepsValues (split_step p t)
unfolding HasValuesIn
split_valued p t s next cost w i sat m new d e =
    let r = accepted s (split_step p t) next cost e in
    let o = unless_leads (is_output_at s p) 1 0 _ next cost r.row in
    let q = unless_leads (is_bool_at s p t) 2 0 _ next cost o.1 in
    let v = still_values (setting_of s.declarations i) m t (term_still t (term_phrase s p t (and_parts (has_place s p) _ r.stands).1)) in
    subst (HasValuesIn (setting_of s.declarations i) m) (leads_same _ next Zero cost q.1)
    (values_changed (setting_of s.declarations i) m s p (split_process t) w o.0 (λ x. (tt, v, (tt, x, (tt, x, tt)))) d)

pub let_valued : (p x T : ℕ) (t : Tree) → KeepsValues (let_step p x T t)
unfolding HasValuesIn
let_valued p x T t s next cost w i sat m new d e =
    let r = accepted s (let_step p x T t) next cost e in
    let o = unless_leads (is_output_at s p) 1 0 _ next cost r.row in
    let q = unless_leads (is_new s x) 2 0 _ next cost o.1 in
    let k = and_parts (is_type s T) _ (and_parts (has_place s p) _ r.stands).1 in
    let v = still_values (setting_of s.declarations i) m t (term_still t (term_phrase s p t k.1)) in
    subst (HasValuesIn (setting_of s.declarations i) m) (leads_same _ next Zero cost q.1)
    (values_changed (setting_of s.declarations i) m s p (after_let x T t) w o.0 (λ y. (type_value s i sat T k.0, v, y)) d)

pub new_valued : (p x T : ℕ) → KeepsValues (new_step p x T)
unfolding HasValuesIn
new_valued p x T s next cost w i sat m new d e =
    let r = accepted s (new_step p x T) next cost e in
    let o = unless_leads (is_output_at s p) 1 0 _ next cost r.row in
    let q = unless_leads (is_new s x) 2 0 _ next cost o.1 in
    let k = and_parts (has_place s p) _ r.stands in
    subst (HasValuesIn (setting_of s.declarations i) m) (leads_same _ next Zero cost q.1)
    (values_changed (setting_of s.declarations i) m s p (after_new x T) w o.0 (λ y. (type_value s i sat T k.1, tt, y)) d)

pub unnew_valued : (x : ℕ) → KeepsValues (unnew_step x)
unnew_valued x s next cost w i sat m new d e =
    let r = accepted s (unnew_step x) next cost e in
    let a = unless_leads (is_chosen s x) 1 0 _ next cost r.row in
    let q = unless_leads (not (is_queried s x)) 2 0 _ next cost a.1 in
    let o = unless_at_leads 2 (first_reading x 0 s.game) _ next cost q.1 in
    subst (HasValuesIn (setting_of s.declarations i) m) (leads_same _ next Zero cost o.1)
    (values_dropped (setting_of s.declarations i) m (only x) Process s.game (without (only x) s.game) (dropped_game (only x) s.game w (unlisted_unread x 0 s.game o.0)) d)

pub rename_valued : (x y : ℕ) → KeepsValues (rename_step x y)
rename_valued x y s next cost w i sat m new d e =
    let z = rename_leads s x y next cost (accepted s (rename_step x y) next cost e).row in
    subst (HasValuesIn (setting_of s.declarations i) m) z.leads (values_renamed (setting_of s.declarations i) m x y (new y z.new) s.game d)

pub unlet_valued : (x : ℕ) → KeepsValues (unlet_step x)
unlet_valued x s next cost w i sat m new d e =
    let r = accepted s (unlet_step x) next cost e in
    let z = unlet_leads s x next cost r.row in
    let phrase : is_phrase Inputs next ≡ true = (and_parts (is_phrase Inputs next) _ r.game).0 in
    subst (HasValuesIn (setting_of s.declarations i) m) z.leads
    (unletted_kept (HasValuesIn (setting_of s.declarations i) m) (values_kept (setting_of s.declarations i) m) x z.assignment s.game w (ap (is_phrase Inputs) z.leads ∙ phrase) d)

pub rewrite_valued : (p : ℕ) (t by : Tree) → KeepsValues (rewrite_step p t by)
rewrite_valued p t by s next cost w i sat m new d e =
    let r = accepted s (rewrite_step p t by) next cost e in
    let z = rewrite_leads s p t by next cost r.row in
    let v = still_values (setting_of s.declarations i) m t (term_still t (term_phrase s p t (and_parts (has_place s p) _ r.stands).1)) in
    subst (HasValuesIn (setting_of s.declarations i) m) z.leads (values_put (setting_of s.declarations i) m t v s.game p d)

pub prune_valued : (p : ℕ) (part : Part) (by : Tree) → KeepsValues (prune_step p part by)
unfolding HasValuesIn
prune_valued p part by s next cost w i sat m new d e =
    let r = accepted s (prune_step p part by) next cost e in
    let z = prune_leads s p part by next cost r.row in
    subst (HasValuesIn (setting_of s.declarations i) m) z.leads
    (values_changed (setting_of s.declarations i) m s p (λ old. z.gone.left) w (pruned_output p (part_at s.game p) part z.gone z.stands)
    (left_keeps (HasValuesIn (setting_of s.declarations i) m) (λ h x y k. (k.1, k.2)) (λ h x y n k l. (k.0, k.1, l)) (λ l x y n k j. (k.0, j, k.2)) p (part_at s.game p) part z.gone z.stands) d)
