-- An accepted step keeps chances.
use Rattle.std.proofs.Common.{◌≡◌, ℕ, true, List, refl, sym, ap, subst, ◌∙◌}
use Rattle.cv_syntax_trees.specs.Tree.{Tree}
use Rattle.cv_meaning.specs.Advantage.{IsAsked, chance_of}
use Rattle.cv_meaning.specs.Chances.{Same}
use Rattle.cv_meaning.specs.Experiments.{Experiment, holds_on, mode_of}
use Rattle.cv_meaning.specs.Interpretation.{Interpretation, Setting, setting_of}
use Rattle.cv_meaning.specs.Queries.{queries_in}
use Rattle.cv_meaning.specs.Runs.{Adversary}
use Rattle.cv_meaning.specs.Tapes.{Cell}
use Rattle.cv_meaning_laws.specs.adequacy.Typed.{Context}
use Rattle.cv_meaning_chances.proofs.alignment.Closing.{others_ignored_in_games}
use Rattle.cv_meaning_runs.specs.Listed.{has_no_calls}
use Rattle.cv_scope_rules.specs.Phrases.{Inputs, is_phrase}
use Rattle.cv_scene.specs.Scenes.{KnowsQueries, Scene}
use Rattle.cv_steps.specs.Chances.{KeepsChances}
use Rattle.cv_steps.proofs.Sizes.{NamesSorts, typed_names}
use Rattle.cv_steps.proofs.Testable.{game_no_calls, game_testable, local}
use Rattle.cv_typing_runs.proofs.Games.{typed}
use Rattle.cv_typing_runs.specs.Games.{context_of}
use Rattle.cv_derive_laws.specs.stores.Holding.{IsReady}
use Rattle.cv_edit_names.specs.Naming.{Naming, naming_of}
use Rattle.cv_rule_array_names.specs.Sites.{AreNoConstants}
use Rattle.cv_edit_names.specs.Splitting.{nothing_around, split_game}
use Rattle.cv_rule_array_names_laws.proofs.CommonCells.{common, common_cells, equal_chances}
use Rattle.cv_rule_array_names_laws.proofs.Counting.{chance_split}
use Rattle.cv_rule_array_names.proofs.Finds.{has_copy}
use Rattle.cv_rule_array_names.proofs.Leads.{IsLed, asks_others, free, known_variable, old_name, splitting}
use Rattle.cv_rule_array_names_laws.proofs.Parts.{PartFor, part_for}
use Rattle.cv_rule_array_names.proofs.Places.{named_at, same_places, is_place}
use Rattle.cv_rule_array_names.proofs.Runs.{IsOther}
use Rattle.cv_rule_array_names.proofs.Values.{Unread}
use Rattle.cv_scope_rules.specs.Behind.{sites_of}
use Rattle.cv_scope_rules.specs.Context.{nothing_known}
use Rattle.cv_scope_rules.specs.declared.position.Position.TheVariants as position

module _ (s : Scene) (x : ℕ) (ys : List ℕ) (next : Tree) (l : IsLed s x ys next) where
  abbrev n : Naming
  n = naming_of s.game x ys

  abbrev after : Tree
  after = split_game x ys s.game

  pub next_part : is_phrase Inputs s.game ≡ true → PartFor n 0 s.game after
  next_part phrase =
      part_for n (has_copy n s.game (splitting s x ys next l)) nothing_around 0 s.game phrase
      (λ q e. named_at (sites_of s.game x) ys q l.many (ap (λ ps. is_place ps q) (same_places x position.Anywhere nothing_known 0 s.game) ∙ e))

  module _ (ready : IsReady s.declarations s.game) (knows : KnowsQueries s) (formed : is_phrase Inputs next ≡ true) (constants : AreNoConstants s ys) (unread : Unread x next) where
    abbrev context : Context
    context = context_of s.declarations s.game

    phrase : is_phrase Inputs after ≡ true
    phrase = ap (is_phrase Inputs) l.leads ∙ formed

    plain : has_no_calls s.game ≡ true
    plain = game_no_calls s.game ready.formed.phrase

    sorts : NamesSorts context s.game
    sorts = typed_names context s.game ready.formed.phrase (typed s.declarations s.game ready.arguments ready.formed ready.typed ready.names)

    module _ (i : Interpretation) (e : Experiment) (asked : IsAsked (queries_in s.declarations) e) (a : Adversary) where
      abbrev g : Setting
      g = setting_of s.declarations i

      other : IsOther x ys (mode_of e)
      other = asks_others s x ys next l knows e asked

      part : PartFor n 0 s.game after
      part = next_part ready.formed.phrase

      abbrev E : List (Cell × ℕ)
      E = common context s.declarations i (mode_of e) a n s.game after part (free s x ys next l) (old_name s x ys next l) plain other sorts

      after_chance : Same (chance_of g e a s.game) (chance_of g e a after)
      unfolding chance_of
      after_chance =
          equal_chances context s.declarations i (mode_of e) a n s.game after part (free s x ys next l) (old_name s x ys next l) plain other sorts (holds_on g e a s.game) (holds_on g e a after)
          (others_ignored_in_games g e a s.game local (game_testable (mode_of e) s.game ready.formed.phrase) plain) (others_ignored_in_games g e a after local (game_testable (mode_of e) after phrase) (game_no_calls after phrase))
          (chance_split s.declarations g s.game refl ready.formed n (splitting s x ys next l) (known_variable s x ys next l ready.formed i) constants (old_name s x ys next l) e a local (game_testable (mode_of e) s.game ready.formed.phrase) E
          other (subst (Unread x) (sym l.leads) unread) (game_testable (mode_of e) after phrase) (game_no_calls after phrase)
          (common_cells context s.declarations i (mode_of e) a n s.game after part (free s x ys next l) (old_name s x ys next l) plain other sorts))

      pub next_chance : Same (chance_of g e a s.game) (chance_of g e a next)
      next_chance = subst (λ t. Same (chance_of g e a s.game) (chance_of g e a t)) l.leads after_chance

    pub keeps_chances : KeepsChances s.declarations s.game next
    keeps_chances i sat e asked a = next_chance i e asked a
