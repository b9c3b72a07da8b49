-- Both together, at each visit of a run and at its end.
use Rattle.std.proofs.Common.{◌≡◌, ℕ, true, List, [], Some}
use Rattle.std.specs.List.{AllByRecursion}
use Rattle.cv_syntax_trees.proofs.lists.Each.{AllByRecursion_both}
use Rattle.cv_syntax_trees.specs.Declarations.{Declaration}
use Rattle.cv_syntax_trees.specs.Tree.{Tree}
use Rattle.cv_syntax_trees.specs.sites.Sites.{Variable as FirstSite, first_site}
use Rattle.cv_meaning.specs.Experiments.{coins_on, run, visits_of_run}
use Rattle.cv_meaning.specs.Interpretation.{Setting}
use Rattle.cv_meaning.specs.Runs.{Adversary, Mode}
use Rattle.cv_meaning.specs.Serving.{Visit}
use Rattle.cv_meaning.specs.Tapes.{Tape}
use Rattle.cv_scope_rules.specs.Phrases.{HasConstantsOf, IsWellFormed}
use Rattle.cv_scope_rules.specs.Scope.{is_variable}
use Rattle.cv_scope_runs.proofs.FactsRuns.{well_game}
use Rattle.cv_scope_runs.proofs.Games.{Game}
use Rattle.cv_scope_runs.proofs.Plain.{game_context}
use Rattle.cv_scope_runs.proofs.ServeRuns.{VisitHolds, game_holds}
use Rattle.cv_scene.specs.Scenes.{has_news_alone}
use Rattle.cv_costs.specs.wording.Facts.{HoldsIn}
use Rattle.cv_rule_birthday_laws.specs.chosen.Drawn.{AreDrawn}
use Rattle.cv_rule_birthday_laws.proofs.chosen.Below.{all_below}
use Rattle.cv_rule_birthday_laws.proofs.chosen.Drawn.{AreOfTape, drawn_at_end, drawn_at_visits}

module _ (ds : List Declaration) (g : Setting) (m : Mode) (a : Adversary) (game : Tree) (t : Tape) (x : ℕ) (V : FirstSite) (constants : HasConstantsOf ds g) (well : IsWellFormed ds game) (news : has_news_alone x game ≡ true) (first : first_site x [] game ≡ Some V) where
  fine : Game g (is_variable game) game
  fine = well_game ds g game constants (game_context ds game well)

  pub all_drawn : AllByRecursion (HoldsIn (AreDrawn g x V.parameters t)) (visits_of_run g m a game t)
  unfolding visits_of_run
  all_drawn =
      AllByRecursion_both (λ (v : Visit). AreOfTape x g t v.before.memory.store) (VisitHolds g (is_variable game) game fine) (HoldsIn (AreDrawn g x V.parameters t))
      (λ v o h w k e. (o w k e, all_below ds g game fine well x news V first v.before.memory.store v.before.memory.events h.stores w k e)) (visits_of_run g m a game t)
      (drawn_at_visits x g t m a game news) (game_holds g (is_variable game) game fine m (a.next (coins_on t 0 a.coins)) t a.moves).passes.visits

  pub last_drawn : AreDrawn g x V.parameters t (run g m a game t).memory.store
  unfolding run
  last_drawn w k e =
      let last = (run g m a game t).memory in (
        drawn_at_end x g t m a game news w k e,
        all_below ds g game fine well x news V first last.store last.events (game_holds g (is_variable game) game fine m (a.next (coins_on t 0 a.coins)) t a.moves).state.stores w k e,
      )
