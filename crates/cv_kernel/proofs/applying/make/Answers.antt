use Rattle.std.proofs.Common.{ap, length, subst, sym, ◌∙◌, Err}
use Rattle.cv_syntax.specs.PoolTrees.{tree_at}
use Rattle.cv_syntax.proofs.Trees.{tree_at_None}
use Rattle.cv_scene_view.specs.Kept.{scene_of}
use Rattle.cv_rule.proofs.Readings.{read_prepared}
use Rattle.cv_steps.specs.Judgements.{judgement_of_row}
use Rattle.cv_steps.specs.Steps.{Leads}
use Rattle.cv_rule.specs.edit.Edits.{edited, need_of}
use Rattle.cv_kernel.specs.Answers.{IsAnswer}
use Rattle.cv_kernel.proofs.Answers.{answer_through, edit_answer, empty_game, game_answer, over_answer, refused}
use Rattle.cv_kernel.proofs.applying.make.Goals as goal
use Rattle.cv_kernel_crypto.proofs.Growing.{declarations_grown}

pub measure-requires-clause-read : goal.measure-requires-clause-read
measure-requires-clause-read c = read_prepared c.args.work.now.pool.trees c.args.work.now.decls c.args.game c.args.arrays.now c.in-OfGame.directory c.requires.prepared c.in-OfGame.is

pub make_game-requires-clause-read : goal.make_game-requires-clause-read
make_game-requires-clause-read c = read_prepared c.args.work.now.pool.trees c.args.work.now.decls c.args.game c.args.arrays.now c.in-OfGame.directory c.requires.prepared c.in-OfGame.is

pub returns-in_err-check_limits-clause-answer : goal.returns-in_err-check_limits-clause-answer
returns-in_err-check_limits-clause-answer c = λ cost same.
    let pool = c.args.work.now.pool in
    let s = scene_of pool c.args.work.now.decls c.args.game in
    let next = edited pool.trees s.game c.args.edit.now in
    let need = need_of s.game c.args.edit.now in
    answer_through pool.limit (length pool.trees) need (judgement_of_row s (Leads next cost)) pool.trees _ _ c.from_residual-in_err-check_limits.ensures.1
    (over_answer s next cost c.in_ok-extent.extent.nodes c.in_ok-extent.extent.depth c.in_ok-extent.ensures.nodes c.in_ok-extent.ensures.depth c.in_err-check_limits.field-0.0 c.in_err-check_limits.ensures.over pool.limit (length pool.trees) need pool.trees)

pub returns-in_err-root-clause-answer : goal.returns-in_err-root-clause-answer
returns-in_err-root-clause-answer c = λ cost same.
    let pool = c.args.work.now.pool in
    let trees = c.make_game.new.pool.trees in
    let s = scene_of pool c.args.work.now.decls c.args.game in
    let next = edited pool.trees s.game c.args.edit.now in
    let need = need_of s.game c.args.edit.now in
    answer_through pool.limit (length pool.trees) need (judgement_of_row s (Leads next cost)) trees _ _ c.from_residual-in_err-root.ensures.1
    (edit_answer s next cost c.in_ok-extent.extent.nodes c.in_ok-extent.extent.depth c.in_ok-extent.ensures.nodes c.in_ok-extent.ensures.depth c.in_ok-check_limits.ensures.within pool.limit (length pool.trees) need trees c.in_err-root.field-0.0 c.in_err-root.ensures.fault)

pub returns-in_default-2-clause-answer : goal.returns-in_default-2-clause-answer
returns-in_default-2-clause-answer c = λ cost same.
    let pool = c.args.work.now.pool in
    let trees = c.make_game.new.pool.trees in
    let s = scene_of pool c.args.work.now.decls c.args.game in
    let next = edited pool.trees s.game c.args.edit.now in
    let need = need_of s.game c.args.edit.now in
    let empty = sym c.in_ok-root.ensures.tree ∙ (ap (tree_at trees) c.in_default-2.is ∙ tree_at_None trees) in
    subst (λ y. IsAnswer pool.limit (length pool.trees) need (judgement_of_row s (Leads next cost)) trees (Err y)) (sym c.refused.ensures)
    (refused s next cost c.in_ok-extent.extent.nodes c.in_ok-extent.extent.depth c.in_ok-extent.ensures.nodes c.in_ok-extent.ensures.depth c.in_ok-check_limits.ensures.within (empty_game s next empty))

pub returns-clause-answer : goal.returns-clause-answer
returns-clause-answer c = λ cost same.
    let pool = c.args.work.now.pool in
    let trees = c.make_game.new.pool.trees in
    let s = scene_of pool c.args.work.now.decls c.args.game in
    let next = edited pool.trees s.game c.args.edit.now in
    let need = need_of s.game c.args.edit.now in
    let tree = ap (tree_at trees) (sym c.in-Some.is) ∙ c.in_ok-root.ensures.tree in
    let grown = declarations_grown pool c.make_game.new.pool c.args.work.now.decls.list c.make_game.ensures.grows c.requires.declared in
    game_answer s next cost c.in_ok-extent.extent.nodes c.in_ok-extent.extent.depth c.in_ok-extent.ensures.nodes c.in_ok-extent.ensures.depth c.in_ok-check_limits.ensures.within pool.limit (length pool.trees) need trees _ c.in-Some.root grown tree c.in_ok-root.ensures.room
    c.args.cost same c.requires.few c.game_at.result c.game_at.ensures.root c.game_at.ensures.cost c.game_at.ensures.game c.game_at.ensures.none
