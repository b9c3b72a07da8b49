-- A context with the right side has the chance of its next game.
use Rattle.std.proofs.Common.{◌≡◌, ℕ, [], refl, sym, ap, subst}
use Rattle.cv_meaning.specs.Advantage.{chance_of}
use Rattle.cv_meaning.specs.Chances.{Same}
use Rattle.cv_meaning.specs.Experiments.{Experiment, mode_of}
use Rattle.cv_meaning.specs.Interpretation.{Interpretation, Setting, setting_of}
use Rattle.cv_meaning.specs.Runs.{Adversary, Events, Mode, Random, Real}
use Rattle.cv_meaning.specs.Tapes.{Tape, blank}
use Rattle.cv_meaning.specs.contexts.ContextAdvantage.{context_chance}
use Rattle.cv_meaning.specs.contexts.Groups.{Right}
use Rattle.cv_meaning.specs.contexts.Sides.{Context}
use Rattle.cv_scene.specs.Reductions.{Reduction, context_of_game}
use Rattle.cv_inline.specs.NextGame.{next_of}
use Rattle.cv_inline_laws.specs.draws.DrawnNames.{drawn_in, find_in}
use Rattle.cv_inline_laws.proofs.draws.Names.{other_label}
use Rattle.cv_inline_laws.specs.runs.Contexts.{IsAskedAlike, IsTextOf}
use Rattle.cv_context_runs.specs.visits.CallTexts.{HasCallTexts}
use Rattle.cv_context_runs.proofs.visits.FineGames.{context_fine}
use Rattle.cv_context_runs.proofs.visits.Visits.{visits_expected}
use Rattle.cv_inline_names_laws.specs.cells.Cells.{names_in}
use Rattle.cv_inline_names_laws.proofs.cells.Swaps.{coins_alike, find_stays, like_tapes}
use Rattle.cv_inline_names_laws.specs.drawn.Named.{NamedContext, named_on_tape, names_of, text_of}
use Rattle.cv_inline_names_laws.proofs.drawn.Laid.{chances_of_named}
use Rattle.cv_context_right_side.specs.Right.{IsRightGame}
use Rattle.cv_context_right_side.proofs.CallTexts.{call_texts}

asked_on : (c : NamedContext) (t : Tape) (m : Mode) → IsAskedAlike (text_of c blank blank) m → IsAskedAlike (named_on_tape c t) m
asked_on c t Events h = tt
asked_on c t (Real one y) h = h
asked_on c t (Random one y) h = (h.0, λ w. refl)

module _ (r : Reduction) (c : NamedContext) (types : ℕ → ℕ) (f : IsRightGame r c types) (i : Interpretation) (setting : c.g ≡ setting_of r.scene.declarations i) where
  text_on : (t : Tape) (m : Mode) (a : Adversary) → IsAskedAlike (text_of c blank blank) m → IsTextOf (named_on_tape c t) m a (context_of_game r).game
  text_on t m a asked =
      let calls : HasCallTexts (named_on_tape c t) [] (context_of_game r).game = subst (λ (k : Context). HasCallTexts (named_on_tape c t) [] k.game) f.named.context (call_texts r c f.named t) in
      record {
        fine = context_fine (named_on_tape c t) r f.named.apt f.named.key
            (record { ordinary = f.roles.ordinary; variables = f.roles.variables; finds = λ l e w. ap t (find_stays (names_in (text_of c blank blank) (find_in (names_of c))) l w (other_label (names_of c) l (f.labels l e))) }) f.free calls;
        tapes = like_tapes (text_of c blank blank) (find_in (names_of c)) t f.named.gone;
        asked = asked_on c t m asked;
        coins = coins_alike (text_of c blank blank) (find_in (names_of c)) t 0 a.coins;
        visited = visits_expected r.scene.declarations (named_on_tape c t) m a (context_of_game r).game (ap (λ (g : Setting). g.is_constant) setting) f.formed calls;
      }

  pub equal_chances : (x : Experiment) (a : Adversary) → IsAskedAlike (text_of c blank blank) (mode_of x)
      → Same (context_chance r.scene.declarations i (context_of_game r) Right x a) (chance_of (setting_of r.scene.declarations i) x a (next_of (context_of_game r) r.key (drawn_in (names_of c))))
  equal_chances x a asked =
      subst (λ n. Same (context_chance r.scene.declarations i (context_of_game r) Right x a) (chance_of (setting_of r.scene.declarations i) x a (next_of (context_of_game r) n (drawn_in (names_of c))))) f.named.key
      (subst (λ (k : Context). Same (context_chance r.scene.declarations i k Right x a) (chance_of (setting_of r.scene.declarations i) x a (next_of k c.key (drawn_in (names_of c))))) f.named.context
      (chances_of_named c types x a r.scene.declarations i setting f.named.form.functions f.typed
      (λ t. subst (λ (k : Context). IsTextOf (named_on_tape c t) (mode_of x) a k.game) (sym f.named.context) (text_on t (mode_of x) a asked))))
