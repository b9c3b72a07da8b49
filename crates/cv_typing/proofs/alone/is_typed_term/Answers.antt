use Rattle.std.proofs.Common.{Some, length}
use Rattle.cv_syntax.specs.PoolTrees.{tree_at}
use Rattle.cv_typing.specs.Lookups.{signature_in}
use Rattle.cv_typing.specs.Tables.{above_of}
use Rattle.cv_scope_rules.specs.typing.Typing.{first_fault}
use Rattle.cv_scope_rules.specs.typing.Wants.{AnyTerm}
use Rattle.cv_scope_rules.proofs.typing.Single.{fault_there, none_there}
use Rattle.cv_typing.proofs.Files.{arguments_live}
use Rattle.cv_typing.proofs.alone.is_typed_term.Goals as goal

pub walk-requires-clause-arguments : goal.walk-requires-clause-arguments
walk-requires-clause-arguments c = arguments_live (length c.args.work.now.pool.trees) c.args.work.now.decls.list c.requires.declared

pub returns-in-Ok : goal.returns-in-Ok
returns-in-Ok c = none_there _ c.in-Ok.ensures.typed

pub returns-else-is_want_of_memory : goal.returns-else-is_want_of_memory
returns-else-is_want_of_memory c = fault_there _ c.in-Err.fault c.is_want_of_memory.result c.in-Err.ensures.fault c.is_want_of_memory.ensures c.if-is_want_of_memory.false
