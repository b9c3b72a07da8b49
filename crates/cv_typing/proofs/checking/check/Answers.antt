use Rattle.std.proofs.Common.{Some}
use Rattle.cv_syntax.specs.Declarations.{declarations}
use Rattle.cv_syntax.specs.PoolTrees.{tree_at}
use Rattle.cv_scope_rules.specs.typing.Parts.{file_parts}
use Rattle.cv_typing.proofs.Files.{first_refusals}
use Rattle.cv_typing.proofs.Sides.{file_typed}
use Rattle.cv_typing.proofs.checking.check.Goals as goal

pub returns-clause-typed : goal.returns-clause-typed
returns-clause-typed c = file_typed (declarations c.args.work.now.pool.trees c.args.work.now.decls.list) (file_parts (declarations c.args.work.now.pool.trees c.args.work.now.decls.list) (tree_at c.args.work.now.pool.trees (Some c.args.file.now.game.root))) c.check_parts.result c.check_parts.ensures.typed

pub returns-clause-fault : goal.returns-clause-fault
returns-clause-fault c = first_refusals (declarations c.args.work.now.pool.trees c.args.work.now.decls.list) (file_parts (declarations c.args.work.now.pool.trees c.args.work.now.decls.list) (tree_at c.args.work.now.pool.trees (Some c.args.file.now.game.root))) c.check_parts.result c.check_parts.ensures.fault
