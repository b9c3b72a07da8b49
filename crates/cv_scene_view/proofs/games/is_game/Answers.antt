use Rattle.std.proofs.Common.{Some, [], ◌∷◌, not, ap, sym, ◌&&◌, ◌∙◌}
use Rattle.std.specs.Prelude.{is_some}
use Rattle.cv_meaning.specs.Interpretation.{is_constant_of}
use Rattle.cv_syntax.specs.Declarations.{declarations}
use Rattle.cv_syntax.specs.PoolTrees.{tree_at}
use Rattle.cv_scope_rules.specs.typing.Parts.{first_in, game_part}
use Rattle.cv_scope_rules.specs.Scope.{first_scope_fault}
use Rattle.cv_scope_rules.specs.Phrases.{Inputs, binds_none, is_phrase}
use Rattle.cv_scene.specs.Terms.{is_game, is_there, names_anywhere}
use Rattle.cv_scene_view.proofs.Tests.{some_same}
use Rattle.cv_scene_view.proofs.Whole.{closed_game, game_typed, no_type}
use Rattle.cv_scene_view.proofs.games.is_game.Goals as goal

pub returns-in_default-clause-game : goal.returns-in_default-clause-game
returns-in_default-clause-game c =
    let ds = declarations c.args.work.now.pool.trees c.args.work.now.decls.list in
    let game = tree_at c.args.work.now.pool.trees (Some c.args.game.root) in
    no_type (is_phrase Inputs game) (binds_none (is_constant_of ds) game) (is_there (names_anywhere ds game) Inputs game) (not (is_some (first_in ds 0 (game_part game ∷ [])))) (not (is_some (first_scope_fault ds game))) (sym c.is_phrase.ensures ∙ c.if-not-is_phrase.false) (game_typed ds game ∙ (sym c.in_ok-typed.ensures.typed ∙ ap is_some c.in_default.is))

pub returns-clause-game : goal.returns-clause-game
returns-clause-game c =
    let ds = declarations c.args.work.now.pool.trees c.args.work.now.decls.list in
    let game = tree_at c.args.work.now.pool.trees (Some c.args.game.root) in
    some_same c.is_closed.result (binds_none (is_constant_of ds) game && is_there (names_anywhere ds game) Inputs game) (is_game ds game)
    (closed_game (is_phrase Inputs game) (binds_none (is_constant_of ds) game) (is_there (names_anywhere ds game) Inputs game) (not (is_some (first_in ds 0 (game_part game ∷ [])))) (not (is_some (first_scope_fault ds game))) (sym c.is_phrase.ensures ∙ c.if-not-is_phrase.false) (game_typed ds game ∙ (sym c.in_ok-typed.ensures.typed ∙ ap is_some c.in-Some.is)) (sym c.in_ok-scoped.ensures.scoped ∙ ap is_some c.in-Some-2.is))
    c.is_closed.ensures.closed
