-- The context of an apt game that typing accepts is laid out.
use Rattle.std.proofs.Common.{[]}
use Rattle.cv_scope_rules.specs.typing.Parts.{IsTypedGame}
use Rattle.cv_scene.specs.LeftTerms.{HasLeftTerms}
use Rattle.cv_scene.specs.Apt.{IsAptGame}
use Rattle.cv_scene.specs.Reductions.{Reduction, context_of_game, matching}
use Rattle.cv_inline_laws.specs.runs.Texts.{Text}
use Rattle.cv_inline_names_laws.specs.cells.Layout.{IsContextText}
use Rattle.cv_context_laws.proofs.shape.Games.{context_part}
use Rattle.cv_context_laws.specs.types.Typed.{HasGameRoles, variable_type}
use Rattle.cv_context_laws.proofs.types.Checked.{game_checked}
use Rattle.cv_context_laws.proofs.types.Kept.{inputs_defined}
use Rattle.cv_context_laws.proofs.types.Laid.{inputs_text}

pub context_laid : (r : Reduction) (T : Text) → IsAptGame r → HasLeftTerms r.scene.declarations (matching r).group → IsTypedGame r.scene.declarations r.scene.game → HasGameRoles T r → IsContextText T (variable_type r.scene.game) (context_of_game r).game
context_laid r T apt left typed roles =
    inputs_text T (variable_type r.scene.game) (context_of_game r).game (context_part r apt left).phrase
    (inputs_defined T r apt roles r.scene.game [] 0 apt.formed.phrase apt.apt (game_checked r.scene.declarations r.scene.game typed))
