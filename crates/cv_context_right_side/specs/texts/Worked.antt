-- A text of the small protocol with tags: 90 is drawn for the key, and nothing else is drawn; 80 takes answers. This profile's own.
use Rattle.std.proofs.Common.{refl}
use Rattle.std.proofs.lemmas.Bool.{both_ways}
use Rattle.std.specs.Prelude.{ℕ, false, ◌==◌, if◌then◌else◌, []}
use Rattle.cv_meaning.specs.Interpretation.{Interpretation, setting_of}
use Rattle.cv_meaning.specs.Tapes.{blank}
use Rattle.cv_scene.specs.Reductions.{context_of_game}
use Rattle.cv_meaning.specs.contexts.Roles.{Gone, Role, TheKeyName}
use Rattle.cv_inline.specs.NextGame.{inlined_calls_of}
use Rattle.cv_inline_laws.specs.runs.Texts.{Text}
use Rattle.cv_context_right_side.specs.texts.SiteTexts.{role_in_game}
use Rattle.cv_context_right_side.specs.texts.Tagging.{declarations, tagging}

abbrev pub tagged_role : ℕ → Role
tagged_role x = if x == 90 then TheKeyName else if x == 80 then Gone else role_in_game tagging x

abbrev pub tagged_text : Interpretation → Text
tagged_text i =
    record {
      g = setting_of declarations i;
      calls = inlined_calls_of (context_of_game tagging) 40 (record { key = 90; variable = λ s v. 91; label = λ s q. 92; index = λ s q o b k. 93 });
      sites = [];
      answer = λ s. 80;
      side_tape = blank;
      game_tape = blank;
      key_length = 0;
      role = tagged_role;
      drawn = λ y. y == 90;
      has = λ s v. false;
      constant = λ x. false;
      arity = λ s. 0;
      finds = λ s q. false;
      opens = λ s q o b. false;
      no_constant = λ y e. refl;
      constants = λ x e. e;
      drawn_key = refl;
      drawn_at = λ s v e. e;
      drawn_indices = λ s q o b k e l. e;
      key_role = refl;
      variables = λ s v e. absurd (both_ways false refl e);
      indices = λ s q o b k e l. absurd (both_ways false refl e);
      answers = λ s. refl;
      key_apart = λ s. refl;
    }
