-- What the test of a next game gives, and what the conditions of its step.
use Rattle.std.proofs.Common.{◌≡◌, ℕ, ◌||◌, Bool, true, false, cond, List, Option, Some, None, option_map, refl, sym, ap, ◌∙◌}
use Rattle.std.proofs.lemmas.Bool.{and_parts, not-true}
use Rattle.cv_syntax_trees.specs.Declarations.{Declaration}
use Rattle.cv_syntax_trees.specs.Tree.{Tree}
use Rattle.cv_meaning.specs.Queries.{queries_in}
use Rattle.cv_typing_runs.specs.Games.{HasDeclaredSorts}
use Rattle.cv_scene.specs.Contexts.{matching_of}
use Rattle.cv_scene.specs.Refusals.{Refusal, first_refusal}
use Rattle.cv_scene.specs.Scenes.{Scene, names}
use Rattle.cv_scene.specs.Terms.{is_game}
use Rattle.cv_steps_laws.specs.crypto.Conditions.{equivalence_of, failed, failure_by, failure_of, failure_with}
use Rattle.cv_steps_laws.specs.crypto.Secrets.{some_asks_without_values}
use Rattle.cv_steps_laws.specs.crypto.Sorts.{has_declared_sorts}
use Rattle.cv_steps_laws.specs.crypto.Steps.{is_next}
use Rattle.cv_steps_laws.proofs.crypto.Sorts.{sorts_declared}
use Rattle.cv_steps_laws.proofs.Keeping.{IsGame, game_formed}

pub record IsTested (ds : List Declaration) (next : Tree) : Type 0 where
  pub game : IsGame ds next
  pub sorts : HasDeclaredSorts ds next
  pub secrets : some_asks_without_values next (queries_in ds) ≡ false

pub tested : (ds : List Declaration) (game : Tree) → is_next ds game ≡ true → IsTested ds game
tested ds game e =
    let p = and_parts (is_game ds game) _ e in
    let q = and_parts (has_declared_sorts ds game) _ p.1 in
    record { game = game_formed ds game p.0; sorts = sorts_declared ds game q.0; secrets = not-true _ q.1 }

-- where no condition fails, nothing refuses the game
pub unrefused : (s : Scene) (e x : ℕ) (t : Tree) → equivalence_of s e ≡ Some t → failure_of s e x ≡ None → first_refusal (matching_of s t x) ≡ None
unrefused s e x t i f = go (s.known x || names x s.game) (first_refusal (matching_of s t x)) (ap (λ o. failure_with s o x) (sym i) ∙ f)
  where
    go : (v : Bool) (o : Option Refusal) → cond v (option_map failure_by o) (Some (failed 0 0)) ≡ None → o ≡ None
    go true None h = refl
    go true (Some r) h = absurd (cc)
    go false o h = absurd (cc)
