-- A game with comparisons of indices in place of those of cells has chances that differ by no more than that of two equal choices.
use Rattle.std.proofs.Common.{◌≡◌, ℕ, Bool, true, false, List, [], Some, None, refl, sym, ◌∙◌}
use Rattle.std.proofs.lemmas.Bool.{and_parts, or_left}
use Rattle.cv_syntax_trees.proofs.lists.Each.{AllByRecursion_weaker}
use Rattle.cv_syntax_trees.specs.Declarations.{Declaration}
use Rattle.cv_syntax_trees.specs.Tree.{Tree}
use Rattle.cv_syntax_trees.specs.declared.sites.sort.Sort.TheVariants.{OfType}
use Rattle.cv_syntax_trees.specs.sites.Sites.{Variable as FirstSite, first_site}
use Rattle.cv_meaning.specs.Advantage.{chance_of}
use Rattle.cv_meaning.specs.Chances.{AtMost, distance}
use Rattle.cv_meaning.specs.Experiments.{Experiment, mode_of, visits_of_run}
use Rattle.cv_meaning.specs.Interpretation.{Interpretation, Setting, setting_of}
use Rattle.cv_meaning.specs.Memory.{Store}
use Rattle.cv_meaning.specs.Runs.{Adversary}
use Rattle.cv_meaning.specs.Tapes.{Tape}
use Rattle.cv_meaning_chances.specs.Tests.{some_equal}
use Rattle.cv_scope_rules.specs.Context.{nothing_known}
use Rattle.cv_scope_rules.specs.Phrases.{Inputs, IsWellFormed}
use Rattle.cv_scope_rules.specs.Scope.{is_variable}
use Rattle.cv_scope_runs.proofs.Contexts.{not_constant}
use Rattle.cv_scope_runs.proofs.FactsRuns.{well_game}
use Rattle.cv_scope_runs.proofs.Games.{Game, stands_phrase}
use Rattle.cv_scope_runs.proofs.Plain.{game_context}
use Rattle.cv_scope_runs.proofs.Standing.{root}
use Rattle.cv_scope_rules.specs.typing.Parts.{IsTypedGame}
use Rattle.cv_scene.specs.Scenes.{has_news_alone, part_at}
use Rattle.cv_scene.specs.Terms.{has_site}
use Rattle.cv_steps.specs.Rewriting.{has_term_at}
use Rattle.cv_costs.specs.wording.Changing.{AreTermsAt, changed_at}
use Rattle.cv_costs.specs.wording.Facts.{HoldsIn, IsOfArray, KeepsValues}
use Rattle.cv_costs.proofs.wording.Chances.{distance_within}
use Rattle.cv_rule_fresh.proofs.Standing.{There, there}
use Rattle.cv_scene.specs.Large.{first_other_site}
use Rattle.cv_rule_birthday.specs.Comparing.{compared, first_uncompared, is_comparison, is_one_of}
use Rattle.cv_rule_birthday_laws.specs.chosen.Drawn.{AreDrawn, choices_of, pairs_over}
use Rattle.cv_rule_birthday_laws.proofs.Comparing.{comparison_says, still_compared}
use Rattle.cv_rule_birthday_laws.proofs.Conditions.{all_compared, chosen_alone}
use Rattle.cv_rule_birthday_laws.proofs.chosen.Pairs.{rare}
use Rattle.cv_rule_birthday_laws.proofs.chosen.Runs.{all_drawn}

module _ (ds : List Declaration) (game : Tree) (x type : ℕ) (places : List ℕ) (large : ℕ → Bool) (V : FirstSite) (well : IsWellFormed ds game) (typed : IsTypedGame ds game)
    (compares : first_uncompared game x places ≡ None) (first : first_site x [] game ≡ Some V) (sort : V.sort ≡ OfType type) (chosen : first_other_site large x 0 game ≡ None) (i : Interpretation) where
  abbrev g : Setting
  g = setting_of ds i

  abbrev ps : List ℕ
  ps = V.parameters

  news : has_news_alone x game ≡ true
  news = chosen_alone large x 0 game chosen

  fine : Game g (is_variable game) game
  fine = well_game ds g game refl (game_context ds game well)

  abbrev bad : Tape → Bool
  bad t = some_equal (choices_of g x ps) t

  -- what holds of the array at each visit on a tape that isn't bad
  abbrev Drawn : Tape → Store → Type 0
  Drawn t m = AreDrawn g x ps t m × (bad t ≡ false)

  array : (t : Tape) → IsOfArray x (Drawn t)
  array t m n same h = (λ w v e. h.0 w v (sym (same w) ∙ e), h.1)

  record Compares (p : ℕ) : Type 0 where
    site : has_site game x ≡ true
    term : has_term_at Inputs game p ≡ true
    is : is_comparison x (part_at game p) ≡ true

  compares_at : (p : ℕ) → is_one_of places p ≡ true → Compares p
  compares_at p e =
      let r = and_parts (has_site game x) _ (all_compared game x places compares p e) in
      let q = and_parts (has_term_at Inputs game p) _ r.1 in
      record { site = r.0; term = q.0; is = q.1 }

  terms : AreTermsAt (is_one_of places) game
  terms p e l = (compares_at p e).term

  keeps : (t : Tape) → KeepsValues g game (is_one_of places) compared (Drawn t)
  keeps t p e Γ k at m named free read h =
      let c : Compares p = compares_at p e in
      let z : There game 0 Inputs nothing_known game p = there game Inputs game p root well.phrase c.term in
      let variable : is_variable game x ≡ true = or_left _ _ c.site in
      comparison_says g at m x ps t h.1 h.0 (not_constant g (is_variable game) fine.apart x variable) (free x variable) (part_at game p) (stands_phrase g (is_variable game) game fine z.stands) c.is read

  pub costs : (y : Experiment) (a : Adversary) → AtMost (distance (chance_of g y a game) (chance_of g y a (changed_at (is_one_of places) compared 0 game))) (pairs_over ps type i)
  costs y a =
      distance_within ds g game x (is_one_of places) compared refl well news terms still_compared Drawn y a bad (pairs_over ps type i) array keeps
      (λ t w e. AllByRecursion_weaker (HoldsIn (AreDrawn g x ps t)) (HoldsIn (Drawn t)) (λ v h. (h, e)) (visits_of_run g (mode_of y) a game t) (all_drawn ds g (mode_of y) a game t x V refl well news first))
      (rare ds i (mode_of y) a game x type V well typed news first sort)
