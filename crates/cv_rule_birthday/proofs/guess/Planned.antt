-- What is planned: whole games, and the change with its cost.
use Rattle.std.proofs.Common.{◌≡◌, ℕ, ◌≤◌, true, false, cond, List, [], ◌∷◌, length, Some, sym, ap, subst, ◌∙◌, arith}
use Rattle.std.proofs.lemmas.Bool.{and_parts}
use Rattle.std.specs.Prelude.{◌||◌}
use Rattle.std.specs.List.{list_all}
use Rattle.cv_pool.specs.KindTree.{KindTree}
use Rattle.cv_syntax_trees.specs.Tree.{size}
use Rattle.cv_bound.specs.Sums.{coefficients, terms_of}
use Rattle.cv_meaning.specs.Replaced.{replaced}
use Rattle.cv_scope_rules.specs.Phrases.{Inputs, is_phrase}
use Rattle.cv_edit_places.specs.Parts.{AreLive, made_by, stack_of, top_of}
use Rattle.cv_edit_places.specs.Plans.{IsCostly, IsPricedChange, failed, failing, failure_of}
use Rattle.cv_edit_places.specs.declared.change.Change.TheVariants.{Built}
use Rattle.cv_edit_places.specs.declared.parts.Parts.{Parts}
use Rattle.cv_edit_places.specs.declared.plan.Failure.{Failure}
use Rattle.cv_edit_places.specs.declared.plan.Priced.{Priced}
use Rattle.cv_costs.specs.Large.{are_increasing}
use Rattle.cv_scene.specs.Scenes.{Scene, has_place, names}
use Rattle.cv_steps.specs.Costs.{cost_of}
use Rattle.cv_steps.specs.Steps.{Leads}
use Rattle.cv_rule_birthday.specs.Conditions.{stands_at_places}
use Rattle.cv_rule_birthday.specs.Comparing.{is_one_of}
use Rattle.cv_rule_birthday.specs.guess.Guessing.{without_guesses}
use Rattle.cv_rule_birthday.specs.guess.Needs.{made_without_guesses}
use Rattle.cv_rule_birthday.specs.guess.Row.{cost_at, guess_row, guess_step}
use Rattle.cv_rule_birthday.proofs.Roots.{game_there, root_replaced}
use Rattle.cv_rule_birthday.proofs.guess.Terms.{as_many_terms, few_places}
use Rattle.cv_rule_birthday.proofs.guess.Walks.{not_larger}

module _ (s : Scene) (x : ℕ) (ps : List ℕ) where
  pub few : stands_at_places s x ps ≡ true → length ps ≤ size s.game
  few e =
      let r = and_parts (list_all (has_place s) ps) (are_increasing ps) (and_parts (s.known x || names x s.game) _ e).1 in
      few_places s ps r.0 r.1

  pub nothing_there : stands_at_places s x ps ≡ false → failure_of s (guess_step x ps) ≡ Some (failed 0 0)
  nothing_there e = ap (λ v. cond v (failing (guess_row s x ps)) (Some (failed 0 0))) e

  pub unplanned : (f : Failure) → stands_at_places s x ps ≡ true → failing (guess_row s x ps) ≡ Some f → failure_of s (guess_step x ps) ≡ Some f
  unplanned f e g = ap (λ v. cond v (failing (guess_row s x ps)) (Some (failed 0 0))) e ∙ g

  pub planned : (trees : List KindTree) (T : ℕ) (parts : Parts) (priced : Priced) → stands_at_places s x ps ≡ true → size s.game ≤ 50000 → is_phrase Inputs s.game ≡ true
      → guess_row s x ps ≡ Leads (without_guesses x ps s.game) (cost_at s ps T)
      → stack_of trees parts ≡ without_guesses x ps s.game ∷ [] → made_by parts ≡ made_without_guesses x ps s.game → AreLive (length trees) parts
      → priced.change ≡ Built parts → priced.cost ≡ cost_of (cost_at s ps T) → IsPricedChange trees s (guess_step x ps) 0 (made_without_guesses x ps s.game) priced
  planned trees T parts priced there little phrase leads stack made live change same = record {
    cost = cost_at s ps T;
    change = subst (λ ch. IsCostly trees s (guess_step x ps) 0 (made_without_guesses x ps s.game) (cost_at s ps T) ch) (sym change) (record {
      met = ap (λ v. cond v (failing (guess_row s x ps)) (Some (failed 0 0))) there ∙ ap failing leads;
      leads = leads ∙ ap (λ t. Leads t (cost_at s ps T)) (sym (ap (λ ts. replaced s.game 0 (top_of ts)) stack ∙ root_replaced s.game (without_guesses x ps s.game) phrase));
      made = made;
      live = (live, ap length stack);
      fits = (let one = ap (λ ts. size (top_of ts)) stack in omega (arith, little, one, not_larger x (is_one_of ps) Inputs 0 s.game));
      there = game_there s.game phrase;
    });
    same = same;
    few = subst (λ k. coefficients (terms_of k false) ≤ 50000) (sym same) (omega (arith, little, as_many_terms s ps T, few there));
  }
