use Rattle.std.proofs.Common.{[], ◌∷◌, Some, Ok, Err, length}
use Rattle.std.proofs.lemmas.Result.{err_from_is_err_and}
use Rattle.cv_syntax.specs.Declarations.{declarations}
use Rattle.cv_syntax.specs.PoolTrees.{tree_at}
use Rattle.cv_scope_rules.specs.typing.Parts.{game_part}
use Rattle.cv_typing.proofs.Files.{arguments_live, first_refusals, game_typed}
use Rattle.cv_typing.proofs.checking.check_game.Goals as goal

pub check_process-requires-clause-arguments : goal.check_process-requires-clause-arguments
check_process-requires-clause-arguments c = arguments_live (length c.args.work.now.pool.trees) c.args.work.now.decls.list c.requires.declared

pub returns-clause-typed : goal.returns-clause-typed
returns-clause-typed c = game_typed (declarations c.args.work.now.pool.trees c.args.work.now.decls.list) (game_part (tree_at c.args.work.now.pool.trees (Some c.args.game.root))) (Ok tt) c.in_ok-check_process.ensures.typed

pub returns-in_err-check_process-clause-fault : goal.returns-in_err-check_process-clause-fault
returns-in_err-check_process-clause-fault c =
    let p = err_from_is_err_and c.from_residual-in_err-check_process.result c.from_residual-in_err-check_process.ensures.1 in
    rw (p.1, p.2) (first_refusals {A = Unit {0}} (declarations c.args.work.now.pool.trees c.args.work.now.decls.list) (game_part (tree_at c.args.work.now.pool.trees (Some c.args.game.root)) ∷ []) (Err c.in_err-check_process.field-0.0) c.in_err-check_process.ensures.fault)
