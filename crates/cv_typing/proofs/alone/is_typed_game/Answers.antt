use Rattle.std.proofs.Common.{[], ◌∷◌, Some, length, ◌∙◌}
use Rattle.cv_syntax.specs.Declarations.{declarations}
use Rattle.cv_syntax.specs.PoolTrees.{tree_at}
use Rattle.cv_scope_rules.specs.typing.Parts.{first_in, game_part}
use Rattle.cv_scope_rules.proofs.typing.Single.{fault_there, none_there, part_alone}
use Rattle.cv_typing.proofs.Files.{arguments_live}
use Rattle.cv_typing.proofs.alone.is_typed_game.Goals as goal

pub check_process-requires-clause-arguments : goal.check_process-requires-clause-arguments
check_process-requires-clause-arguments c = arguments_live (length c.args.work.now.pool.trees) c.args.work.now.decls.list c.requires.declared

pub returns-in-Ok-clause-typed : goal.returns-in-Ok-clause-typed
returns-in-Ok-clause-typed c =
    let ds = declarations c.args.work.now.pool.trees c.args.work.now.decls.list in
    let part = game_part (tree_at c.args.work.now.pool.trees (Some c.args.root)) in
    none_there (first_in ds 0 (part ∷ [])) c.in-Ok.ensures.typed ∙ part_alone ds 0 part

pub returns-else-is_want_of_memory-clause-typed : goal.returns-else-is_want_of_memory-clause-typed
returns-else-is_want_of_memory-clause-typed c =
    let ds = declarations c.args.work.now.pool.trees c.args.work.now.decls.list in
    let part = game_part (tree_at c.args.work.now.pool.trees (Some c.args.root)) in
    fault_there (first_in ds 0 (part ∷ [])) c.in-Err.fault c.is_want_of_memory.result c.in-Err.ensures.fault c.is_want_of_memory.ensures c.if-is_want_of_memory.false ∙ part_alone ds 0 part
