-- Rows that lead on because their derivations are right, and the conditions by which such steps are refused.
use Rattle.std.proofs.Common.{◌≡◌, ℕ, Bool, true, false, cond, ◌&&◌, nat_lt, Option, Some, None, refl, sym, ap, ◌∙◌, inl, inr}
use Rattle.std.specs.Prelude.{◌⊎◌}
use Rattle.cv_syntax_trees.specs.Tree.{Tree, depth, size}
use Rattle.cv_syntax.specs.limits.Limits.{most_depth, most_nodes}
use Rattle.cv_scene.specs.Derivations.{Derives}
use Rattle.cv_scene.specs.Pruning.{Pruned, pruned}
use Rattle.cv_scene.specs.Scenes.{Scene, has_place, part_at}
use Rattle.cv_scene.specs.Sights.{sight_at}
use Rattle.cv_scene.specs.Terms.{is_game, is_term_at}
use Rattle.cv_scene.specs.lines.Ends.{ends_with}
use Rattle.cv_scene.specs.lines.Targets.{equality, falsity}
use Rattle.cv_steps.specs.Changes.{change_at}
use Rattle.cv_steps.specs.Elementary.{prune_step, rewrite_step}
use Rattle.cv_steps.specs.Judgements.{Accepted, Refused, TooDeep, TooLarge, judgement_of, judgement_of_row}
use Rattle.cv_steps.specs.Rewriting.{has_sort_of, is_rewritable_at, sort_at}
use Rattle.cv_steps.specs.Rows.{prune_row, prune_row_by, unless, unless_at, unless_derived}
use Rattle.cv_steps.specs.Steps.{Cost, Fails, Leads, Row, Step, Zero}
use Rattle.cv_settling_laws.specs.Games.{IsTypedScene}
use Rattle.cv_settling_rules.specs.Reasons.{IsUnreached, Unreached, derivation_of}
use Rattle.cv_settling_laws.specs.Refusals.{IsOneOf, IsPruning}
use Rattle.cv_settling_rules.specs.Rewritings.{by_bool, by_equation, rewriting}
use Rattle.cv_settling_laws.specs.Rewritings.{IsInstance, IsTruth, MayBecome}
use Rattle.cv_settling_laws.proofs.Places.{reasons_derived}
use Rattle.cv_settling_laws.proofs.Rewritten.{instance_derived, truth_derived}

-- rows

unless_derives : (s : Scene) (p : ℕ) (by targets : Tree) (c e : ℕ) (rest : Row) → Derives (sight_at s p) by targets → unless_derived s p by targets c e rest ≡ rest
unless_derives s p by targets c e rest d = ap (λ o. unless_at c o (unless (ends_with by targets) e 0 rest)) d.right ∙ ap (λ b. unless b e 0 rest) d.end

prune_leads_by : (s : Scene) (place : ℕ) (by : Tree) (o : Option Pruned) (gone : Pruned) → o ≡ Some gone → Derives (sight_at s gone.body) by falsity → prune_row_by s place by o ≡ Leads (change_at s.game place (λ old. gone.left)) Zero
prune_leads_by s place by o gone e d = ap (prune_row_by s place by) e ∙ unless_derives s gone.body by falsity 2 3 (Leads (change_at s.game place (λ old. gone.left)) Zero) d

pub prune_leads : (s : Scene) → IsTypedScene s → (place : ℕ) (u : Unreached) (gone : Pruned) → pruned place (part_at s.game place) u.part ≡ Some gone → IsUnreached (sight_at s gone.body) u → prune_row s place u.part (derivation_of u) ≡ Leads (change_at s.game place (λ old. gone.left)) Zero
prune_leads s g place u gone e k = prune_leads_by s place (derivation_of u) (pruned place (part_at s.game place) u.part) gone e (reasons_derived s g gone.body u k)

-- refusals

same_condition : (c p d q : ℕ) → Refused c p ≡ Refused d q → c ≡ d
same_condition c p d q e = cc

-- a row that leads on
leads_refused : (s : Scene) (step : Step) (next : Tree) (cost : Cost) (d q : ℕ) → step.row s ≡ Leads next cost → judgement_of s step ≡ Refused d q → (d ≡ 0) ⊎ (d ≡ 9)
leads_refused s step next cost d q e f = stands (step.stands s) (sym (ap (λ r. cond (step.stands s) (judgement_of_row s r) (Refused 0 0)) e) ∙ f)
  where
    limits : (u v w : Bool) → cond u (TooLarge (size next)) (cond v (TooDeep (depth next)) (cond w (Accepted next cost) (Refused 9 0))) ≡ Refused d q → (d ≡ 0) ⊎ (d ≡ 9)
    limits true v w e = absurd (cc)
    limits false true w e = absurd (cc)
    limits false false true e = absurd (cc)
    limits false false false e = inr (sym (same_condition 9 0 d q e))

    stands : (b : Bool) → cond b (judgement_of_row s (Leads next cost)) (Refused 0 0) ≡ Refused d q → (d ≡ 0) ⊎ (d ≡ 9)
    stands true e = limits (nat_lt most_nodes (size next)) (nat_lt most_depth (depth next)) (is_game s.declarations next) e
    stands false e = inl (sym (same_condition 0 0 d q e))

-- one that fails
fails_refused : (s : Scene) (step : Step) (c p d q : ℕ) → step.row s ≡ Fails c p → judgement_of s step ≡ Refused d q → (d ≡ 0) ⊎ (d ≡ c)
fails_refused s step c p d q e f = stands (step.stands s) (sym (ap (λ r. cond (step.stands s) (judgement_of_row s r) (Refused 0 0)) e) ∙ f)
  where
    stands : (b : Bool) → cond b (Refused c p) (Refused 0 0) ≡ Refused d q → (d ≡ 0) ⊎ (d ≡ c)
    stands true e = inr (sym (same_condition c p d q e))
    stands false e = inl (sym (same_condition 0 0 d q e))

pub prune_refused : (s : Scene) → IsTypedScene s → (place : ℕ) (u : Unreached) → IsPruning s place u → (d q : ℕ) → judgement_of s (prune_step place u.part (derivation_of u)) ≡ Refused d q → IsOneOf d 0 1 9
prune_refused s g place u r d q f = go (pruned place (part_at s.game place) u.part) refl
  where
    step : Step
    step = prune_step place u.part (derivation_of u)

    no_body : (d ≡ 0) ⊎ (d ≡ 1) → IsOneOf d 0 1 9
    no_body (inl e) = inl e
    no_body (inr e) = inr (inl e)

    no_game : (d ≡ 0) ⊎ (d ≡ 9) → IsOneOf d 0 1 9
    no_game (inl e) = inl e
    no_game (inr e) = inr (inr e)

    go : (o : Option Pruned) → pruned place (part_at s.game place) u.part ≡ o → IsOneOf d 0 1 9
    go None e = no_body (fails_refused s step 1 0 d q (ap (prune_row_by s place (derivation_of u)) e) f)
    go (Some gone) e = no_game (leads_refused s step (change_at s.game place (λ old. gone.left)) Zero d q (prune_leads s g place u gone e (r gone e)) f)

-- a rewriting that is derived where its other conditions hold
rewrite_refused : (s : Scene) (place : ℕ) (m by : Tree) → (MayBecome s place m → Derives (sight_at s place) by (equality (part_at s.game place) m)) → (d q : ℕ)
    → judgement_of s (rewrite_step place m by) ≡ Refused d q → (d ≡ 0) ⊎ IsOneOf d 1 2 9
rewrite_refused s place m by k d q f = stood (has_place s place) (is_term_at s place m) refl f
  where
    step : Step
    step = rewrite_step place m by

    leads : Row
    leads = Leads (change_at s.game place (λ old. m)) Zero

    derived : Row
    derived = unless_derived s place by (equality (part_at s.game place) m) 3 4 leads

    no_place : (d ≡ 0) ⊎ (d ≡ 1) → (d ≡ 0) ⊎ IsOneOf d 1 2 9
    no_place (inl e) = inl e
    no_place (inr e) = inr (inl e)

    no_sort : (d ≡ 0) ⊎ (d ≡ 2) → (d ≡ 0) ⊎ IsOneOf d 1 2 9
    no_sort (inl e) = inl e
    no_sort (inr e) = inr (inr (inl e))

    no_game : (d ≡ 0) ⊎ (d ≡ 9) → (d ≡ 0) ⊎ IsOneOf d 1 2 9
    no_game (inl e) = inl e
    no_game (inr e) = inr (inr (inr e))

    row : is_term_at s place m ≡ true → (u v : Bool) → is_rewritable_at s place ≡ u → has_sort_of (sort_at s place (part_at s.game place)) (sort_at s place m) ≡ v → (d ≡ 0) ⊎ IsOneOf d 1 2 9
    row i false v a b = no_place (fails_refused s step 1 place d q (ap (λ c. unless c 1 place (unless (has_sort_of (sort_at s place (part_at s.game place)) (sort_at s place m)) 2 0 derived)) a) f)
    row i true false a b = no_sort (fails_refused s step 2 0 d q ((λ c. unless (a c) 1 place (unless (b c) 2 0 derived))) f)
    row i true true a b =
        no_game (leads_refused s step (change_at s.game place (λ old. m)) Zero d q
        ((λ c. unless (a c) 1 place (unless (b c) 2 0 derived)) ∙ unless_derives s place by (equality (part_at s.game place) m) 3 4 leads (k (record { term = i; rewritable = a; sort = b }))) f)

    stood : (u v : Bool) → is_term_at s place m ≡ v → judgement_of s step ≡ Refused d q → (d ≡ 0) ⊎ IsOneOf d 1 2 9
    stood u true e f = row e (is_rewritable_at s place) (has_sort_of (sort_at s place (part_at s.game place)) (sort_at s place m)) refl refl
    stood u false e f = inl (no_place_refused (has_place s place) (sym (ap (λ v. cond (has_place s place && v) (judgement_of_row s (step.row s)) (Refused 0 0)) e) ∙ f))
      where
        no_place_refused : (b : Bool) → cond (b && false) (judgement_of_row s (step.row s)) (Refused 0 0) ≡ Refused d q → d ≡ 0
        no_place_refused true e = sym (same_condition 0 0 d q e)
        no_place_refused false e = sym (same_condition 0 0 d q e)

pub truth_refused : (s : Scene) → IsTypedScene s → (place : ℕ) (m : Tree) → IsTruth s place m → (d q : ℕ) → judgement_of s (rewrite_step place m (rewriting s place m by_bool)) ≡ Refused d q → (d ≡ 0) ⊎ IsOneOf d 1 2 9
truth_refused s g place m e = rewrite_refused s place m (rewriting s place m by_bool) (λ k. truth_derived s g place m k e)

pub instance_refused : (s : Scene) → IsTypedScene s → (place : ℕ) (m : Tree) (n : ℕ) (terms : Tree) → IsInstance s place m n terms → (d q : ℕ) → judgement_of s (rewrite_step place m (rewriting s place m (by_equation n terms))) ≡ Refused d q → (d ≡ 0) ⊎ IsOneOf d 1 2 9
instance_refused s g place m n terms i = rewrite_refused s place m (rewriting s place m (by_equation n terms)) (λ k. instance_derived s g place m k n terms i)
