-- The chances of a game's context with either side have tapes, and so has its advantage.
use Rattle.std.proofs.Common.{[], mul-pos}
use Rattle.cv_meaning.specs.Experiments.{Experiment, mode_of}
use Rattle.cv_meaning.specs.Interpretation.{Interpretation, setting_with}
use Rattle.cv_meaning.specs.Runs.{Adversary, Mode}
use Rattle.cv_meaning.specs.Satisfies.{Satisfies}
use Rattle.cv_meaning_chances.specs.Fractions.{HasTapes}
use Rattle.cv_meaning.specs.contexts.ContextAdvantage.{context_advantage, context_chance}
use Rattle.cv_meaning.specs.contexts.Groups.{Left, Right, Which}
use Rattle.cv_meaning.specs.contexts.Sides.{side_of}
use Rattle.cv_meaning_chances.specs.values.Values.{HasValuesIn}
use Rattle.cv_meaning_chances.proofs.values.Tapes.{tapes}
use Rattle.cv_scope_rules.specs.declared.position.Position.TheVariants.{Anywhere}
use Rattle.cv_scene.specs.Reductions.{Reduction, context_of_game, in_game, is_coin, matching}
use Rattle.cv_context_files.specs.tapes.Declared.{HasDeclaredTypes}
use Rattle.cv_context_files.proofs.tapes.Contexts.{in_context_valued}
use Rattle.cv_context_files.proofs.tapes.Sides.{call_values, key_value}

pub context_values : (r : Reduction) (i : Interpretation) (m : Mode) (which : Which) → Satisfies r.scene.declarations i → HasDeclaredTypes r.scene.declarations r.equivalence → HasValuesIn (in_game r i) m r.scene.game
    → HasValuesIn (setting_with r.scene.declarations i (side_of r.scene.declarations i (context_of_game r) which)) m (context_of_game r).game
context_values r i m which sat h v =
    in_context_valued r.scene.declarations i m (side_of r.scene.declarations i (context_of_game r) which) (key_value r.scene.declarations i sat (context_of_game r) which h)
    (call_values r.scene.declarations i sat (context_of_game r) which h) (matching r) (is_coin r) r.answer Anywhere [] 0 r.scene.game v

pub chance_tapes : (r : Reduction) (i : Interpretation) (x : Experiment) (a : Adversary) (which : Which) → Satisfies r.scene.declarations i → HasDeclaredTypes r.scene.declarations r.equivalence
    → HasValuesIn (in_game r i) (mode_of x) r.scene.game → HasTapes (context_chance r.scene.declarations i (context_of_game r) which x a)
chance_tapes r i x a which sat h v = tapes _ x a (context_of_game r).game (context_values r i (mode_of x) which sat h v)

pub advantage_tapes : (r : Reduction) (i : Interpretation) (x : Experiment) (a : Adversary) → Satisfies r.scene.declarations i → HasDeclaredTypes r.scene.declarations r.equivalence
    → HasValuesIn (in_game r i) (mode_of x) r.scene.game → HasTapes (context_advantage r.scene.declarations i (context_of_game r) x a)
advantage_tapes r i x a sat h v = mul-pos (chance_tapes r i x a Left sat h v) (chance_tapes r i x a Right sat h v)
