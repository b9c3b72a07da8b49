-- What is planned where the conditions hold: the change, and what it costs.
use Rattle.std.proofs.Common.{◌≡◌, ℕ, ◌≤◌, true, false, cond, List, [], ◌∷◌, length, Some, Ok, sym, ap, subst, ◌∙◌, arith}
use Rattle.cv_pool.specs.KindTree.{KindTree}
use Rattle.cv_syntax_trees.specs.Tree.{size}
use Rattle.cv_scope_rules.specs.Phrases.{Inputs, is_phrase}
use Rattle.cv_scene.specs.Scenes.{Scene}
use Rattle.cv_bound.specs.Sums.{coefficients, terms_of}
use Rattle.cv_steps.specs.Costs.{cost_of}
use Rattle.cv_steps.specs.Steps.{Cost, Leads}
use Rattle.cv_costs.specs.Collisions.{one_for_pairs}
use Rattle.cv_costs.specs.Copies.{parameters_of}
use Rattle.cv_costs.specs.wording.Changing.{changed_at}
use Rattle.cv_edit_places.specs.Parts.{AreLive, made_by, stack_of, top_of}
use Rattle.cv_edit_places.specs.Plans.{IsCostly, IsPricedChange, failed, failing}
use Rattle.cv_edit_places.specs.declared.change.Change.TheVariants.{Built}
use Rattle.cv_edit_places.specs.declared.parts.Parts.{Parts}
use Rattle.cv_edit_places.specs.declared.plan.Priced.{Priced}
use Rattle.cv_rule_birthday.specs.Chosen.{IsChosen}
use Rattle.cv_rule_birthday.specs.Comparing.{compared, is_one_of}
use Rattle.cv_rule_birthday.specs.Conditions.{stands_at_places}
use Rattle.cv_rule_birthday.specs.Needs.{made_of_changed}
use Rattle.cv_rule_birthday.specs.Row.{birthday_row, birthday_step}
use Rattle.cv_rule_birthday.proofs.Roots.{game_there, root_replaced}
use Rattle.cv_rule_birthday.proofs.Sizes.{changed_size}

pub planned : (trees : List KindTree) (s : Scene) (x : ℕ) (ps : List ℕ) (T : ℕ) (parts : Parts) (priced : Priced) → stands_at_places s x ps ≡ true → size s.game ≤ 50000 → is_phrase Inputs s.game ≡ true → IsChosen s x ps (Ok T)
    → stack_of trees parts ≡ changed_at (is_one_of ps) compared 0 s.game ∷ [] → made_by parts ≡ made_of_changed (is_one_of ps) 0 s.game → AreLive (length trees) parts
    → priced.change ≡ Built parts → priced.cost ≡ cost_of (one_for_pairs s.declarations (parameters_of s.game x) T) → IsPricedChange trees s (birthday_step x ps) 0 (made_of_changed (is_one_of ps) 0 s.game) priced
planned trees s x ps T parts priced there small phrase leads stack made live change same = record {
  cost = cost;
  change = subst (λ (c : _). IsCostly trees s (birthday_step x ps) 0 (made_of_changed (is_one_of ps) 0 s.game) cost c) (sym change) (record {
    met = ap (λ v. cond v (failing (birthday_row s x ps)) (Some (failed 0 0))) there ∙ ap failing leads;
    leads = leads ∙ ap (λ t. Leads t cost) (sym (root_replaced s.game (top_of (stack_of trees parts)) phrase ∙ ap top_of stack));
    made = made;
    live = (live, ap length stack);
    fits = (let one = ap (λ ts. size (top_of ts)) stack in omega (arith, small, one, changed_size (is_one_of ps) 0 Inputs s.game phrase));
    there = game_there s.game phrase;
  });
  same = same;
  few = subst (λ k. coefficients (terms_of k false) ≤ 50000) (sym same) (omega arith);
}
  where
    cost : Cost
    cost = one_for_pairs s.declarations (parameters_of s.game x) T
