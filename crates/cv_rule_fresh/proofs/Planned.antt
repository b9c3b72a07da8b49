-- What is planned: the conditions in their order, and the change.
use Rattle.std.proofs.Common.{◌≡◌, ℕ, ◌≤◌, Bool, true, false, cond, nat_lt, List, length, Some, None, refl, sym, ap, ap₂, subst, ◌∙◌, arith, ltb-true}
use Rattle.cv_pool.specs.KindTree.{KindTree}
use Rattle.cv_syntax_trees.specs.Tree.{Tree, size}
use Rattle.cv_scene.specs.lines.Truths.{no}
use Rattle.cv_meaning.specs.Replaced.{replaced}
use Rattle.cv_scene.specs.Scenes.{Scene, has_place}
use Rattle.cv_bound.specs.Sums.{coefficients, terms_of}
use Rattle.cv_steps.specs.Changes.{change_at}
use Rattle.cv_steps.specs.Costs.{cost_of}
use Rattle.cv_steps.specs.Rows.{unless}
use Rattle.cv_steps.specs.Steps.{Cost, Fails, Leads, Row}
use Rattle.cv_costs.specs.Collisions.{one_for_each}
use Rattle.cv_edit_places.specs.Parts.{top_of}
use Rattle.cv_edit_places.specs.Plans.{IsCostly, IsPricedChange, failed, failing, failure_of}
use Rattle.cv_edit_places.specs.declared.change.Change.TheVariants.{Built}
use Rattle.cv_edit_places.specs.declared.parts.Parts.{Parts}
use Rattle.cv_edit_places.specs.declared.plan.Failure.{Failure}
use Rattle.cv_edit_places.specs.declared.plan.Priced.{Priced}
use Rattle.cv_rule_fresh.specs.collisions.Choices as choices
use Rattle.cv_scene.specs.Large.{is_large}
use Rattle.cv_rule_fresh.specs.collisions.Choices.{choice_above, parameters_at}
use Rattle.cv_costs.specs.names.Reach.{is_in_scope_at}
use Rattle.cv_rule_fresh.specs.collisions.Equalities.{current_variable}
use Rattle.cv_rule_fresh.specs.collisions.Fresh.{either, fresh_row, fresh_step, row_by_choice, row_by_side, row_by_variable}
use Rattle.cv_rule_fresh.specs.Looks.{IsFalsity, later_failure}
use Rattle.cv_rule_fresh.specs.declared.choices.Choice.{Choice}

module _ (s : Scene) (p : ℕ) (m other : Tree) where
  pub side_unread : current_variable s p m ≡ None → failing (row_by_side s p m other) ≡ Some (failed 1 0)
  side_unread e = ap (λ o. failing (row_by_variable s p other o)) e

  module _ (x : ℕ) (read : current_variable s p m ≡ Some x) where
    by_variable : row_by_side s p m other ≡ row_by_choice s p other (choice_above s.game x p)
    by_variable = ap (row_by_variable s p other) read

    pub side_unchosen : choice_above s.game x p ≡ None → failing (row_by_side s p m other) ≡ Some (failed 2 0)
    side_unchosen e = ap failing (by_variable ∙ ap (row_by_choice s p other) e)

    module _ (c : choices.Choice) (chosen : choice_above s.game x p ≡ Some c) where
      abbrev leads : Row
      leads = Leads (change_at s.game p (λ old. no)) (one_for_each s.declarations (parameters_at s c.place) c.type)

      by_sizes : row_by_side s p m other ≡ unless (is_large s c.type) 2 0 (unless (is_in_scope_at s c.place other) 3 p leads)
      by_sizes = by_variable ∙ ap (row_by_choice s p other) chosen

      pub side_small : is_large s c.type ≡ false → failing (row_by_side s p m other) ≡ Some (failed 2 0)
      side_small e = ap failing (by_sizes ∙ ap (λ v. unless v 2 0 (unless (is_in_scope_at s c.place other) 3 p leads)) e)

      by_scope : is_large s c.type ≡ true → row_by_side s p m other ≡ unless (is_in_scope_at s c.place other) 3 p leads
      by_scope e = by_sizes ∙ ap (λ v. unless v 2 0 (unless (is_in_scope_at s c.place other) 3 p leads)) e

      pub side_unscoped : is_large s c.type ≡ true → is_in_scope_at s c.place other ≡ false → failing (row_by_side s p m other) ≡ Some (failed 3 p)
      side_unscoped e f = ap failing (by_scope e ∙ ap (λ v. unless v 3 p leads) f)

      pub side_chosen : is_large s c.type ≡ true → is_in_scope_at s c.place other ≡ true → row_by_side s p m other ≡ leads
      side_chosen e f = by_scope e ∙ ap (λ v. unless v 3 p leads) f

-- both sides

pub second_leads : (r q : Row) (next : Tree) (cost : Cost) (f : Failure) → failing r ≡ Some f → q ≡ Leads next cost → either r q ≡ Leads next cost
second_leads (Leads n c) q next cost f e g = absurd (cc)
second_leads (Fails c k) q next cost f e g = ap (either (Fails c k)) g

pub both_fail : (r q : Row) (f g : Failure) → failing r ≡ Some f → failing q ≡ Some g → failing (either r q) ≡ Some (later_failure f g)
both_fail (Leads n c) q f g e h = absurd (cc)
both_fail (Fails c k) (Leads n d) f g e h = absurd (cc)
both_fail (Fails c k) (Fails d l) f g e h =
    let first : failed c k ≡ f = cc in
    let second : failed d l ≡ g = cc in
    go (nat_lt c d) ∙ ap₂ (λ x y. Some (later_failure x y)) first second
  where
    go : (v : Bool) → failing (cond v (Fails d l) (Fails c k)) ≡ Some (cond v (failed d l) (failed c k))
    go true = refl
    go false = refl

-- the whole

pub no_place : (s : Scene) (p : ℕ) → has_place s p ≡ false → failure_of s (fresh_step p) ≡ Some (failed 0 0)
no_place s p e = ap (λ v. cond v (failing (fresh_row s p)) (Some (failed 0 0))) e

pub unplanned : (s : Scene) (p : ℕ) (f : Failure) → has_place s p ≡ true → failing (fresh_row s p) ≡ Some f → failure_of s (fresh_step p) ≡ Some f
unplanned s p f e g = ap (λ v. cond v (failing (fresh_row s p)) (Some (failed 0 0))) e ∙ g

pub planned : (trees : List KindTree) (s : Scene) (p : ℕ) (c : Choice) (parts : Parts) (priced : Priced) → has_place s p ≡ true → size s.game ≤ 50000 → fresh_row s p ≡ Leads (change_at s.game p (λ old. no)) (one_for_each s.declarations (parameters_at s c.place) c.of_type)
    → IsFalsity parts → priced.change ≡ Built parts → priced.cost ≡ cost_of (one_for_each s.declarations (parameters_at s c.place) c.of_type) → IsPricedChange trees s (fresh_step p) p 1 priced
unfolding size
planned trees s p c parts priced there small leads falsity change same = record {
  cost = one_for_each s.declarations (parameters_at s c.place) c.of_type;
  change = subst (λ (ch : _). IsCostly trees s (fresh_step p) p 1 (one_for_each s.declarations (parameters_at s c.place) c.of_type) ch) (sym change) (record {
    met = ap (λ v. cond v (failing (fresh_row s p)) (Some (failed 0 0))) there ∙ ap failing leads;
    leads = leads ∙ ap (λ t. Leads (replaced s.game p t) (one_for_each s.declarations (parameters_at s c.place) c.of_type)) (sym (ap top_of (falsity.stack trees)));
    made = falsity.made;
    live = (falsity.live (length trees), ap length (falsity.stack trees));
    fits = (let one = ap (λ ts. size (top_of ts)) (falsity.stack trees) in omega (arith, small, one));
    there = ltb-true p (size s.game) there;
  });
  same = same;
  few = subst (λ k. coefficients (terms_of k false) ≤ 50000) (sym same) (omega arith);
}
