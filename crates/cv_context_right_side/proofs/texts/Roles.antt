-- Names with the roles that a game gives them have the roles of the game.
use Rattle.std.proofs.Common.{◌≡◌, ℕ, Bool, true, false, cond, ◌&&◌, not, List, [], Some, refl, ap, ◌∙◌, eq-eqb}
use Rattle.std.proofs.lemmas.Bool.{both_ways}
use Rattle.cv_syntax_trees.specs.Tree.{Tree}
use Rattle.cv_meaning.specs.Tapes.{Find_at}
use Rattle.cv_scope_rules.specs.Phrases.{IsWellFormed}
use Rattle.cv_scope_rules.specs.Scope.{is_variable, names_of}
use Rattle.cv_scope_rules.specs.Standing.{at_root}
use Rattle.cv_scene.specs.Reductions.{Reduction, is_answer, is_coin, is_plain}
use Rattle.cv_scene.specs.Refusals.{new_of}
use Rattle.cv_scene.specs.Scenes.{names}
use Rattle.cv_scene.specs.Terms.{has_index}
use Rattle.cv_context.specs.indices.Indices.{indices_are_new}
use Rattle.cv_context.proofs.indices.News.{value_sort}
use Rattle.cv_context.proofs.indices.Replications.{all_new}
use Rattle.cv_context.proofs.indices.Typed.{variable_there}
use Rattle.cv_meaning.specs.contexts.Roles.{Gone, Plain, Replication, Role}
use Rattle.cv_inline_laws.specs.runs.Texts.{Text, is_ordinary}
use Rattle.cv_context_runs.specs.visits.Fine.{HasRolesOf, has_label}
use Rattle.cv_context_right_side.specs.texts.SiteTexts.{role_in_game}
use Rattle.cv_context_right_side.proofs.texts.Names.{defined_is_variable, defined_named, index_named, index_no_variable}

module _ (r : Reduction) (formed : IsWellFormed r.scene.declarations r.scene.game) where
  abbrev game : Tree
  game = r.scene.game

  news : indices_are_new (is_variable game) [] game ≡ true
  news = all_new (names_of r.scene.declarations game) at_root game formed.scoped

  no_index : (x : ℕ) → is_variable game x ≡ true → has_index game x ≡ false
  no_index x v = go (has_index game x) refl
    where
      go : (b : Bool) → has_index game x ≡ b → b ≡ false
      go false e = refl
      go true e = absurd (both_ways (is_variable game x) (index_no_variable (is_variable game) x game news e) v)

  of_plain : (x : ℕ) → is_plain r x ≡ true → is_ordinary (role_in_game r x) ≡ true
  of_plain x p = go (has_index game x) (is_plain r x) p
    where
      go : (b c : Bool) → c ≡ true → is_ordinary (cond b Replication (cond c Plain Gone)) ≡ true
      go true c e = refl
      go false true e = refl
      go false false e = absurd (both_ways false refl e)

  module _ (T : Text) (named : (x : ℕ) → names x game ≡ true → T.role x ≡ role_in_game r x) where
    pub roles_of_names : ((l : ℕ) → has_label l game ≡ true → (w : List ℕ) → T.side_tape (Find_at l w) ≡ T.game_tape (Find_at l w)) → HasRolesOf T r game
    roles_of_names alike = record {
      ordinary = λ x n p. ap is_ordinary (named x n) ∙ of_plain x p;
      variables = λ x d p. named x (defined_named x game d) ∙ (λ i. cond (no_index x (defined_is_variable x game d) i) Replication (cond (p i) Plain Gone));
      finds = alike;
    }

    pub roles_of_indices : (i : ℕ) → has_index game i ≡ true → T.role i ≡ Replication
    roles_of_indices x e = named x (index_named x game e) ∙ ap (λ b. cond b Replication (cond (is_plain r x) Plain Gone)) e

  -- the key goes

  pub key_gone : (d : ℕ × List (ℕ × ℕ)) → new_of game r.key ≡ Some d → role_in_game r r.key ≡ Gone
  key_gone d e =
      (λ i. cond (no_index r.key (variable_there game r.key d.0 (value_sort game r.key d formed.phrase e)) i) Replication (cond (is_plain r r.key) Plain Gone))
      ∙ ap (λ b. cond {A = Role} (not b && (not (is_coin r r.key) && not (is_answer r r.key))) Plain Gone) (eq-eqb r.key r.key refl)
