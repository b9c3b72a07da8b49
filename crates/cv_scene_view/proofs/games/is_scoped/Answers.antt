use Rattle.cv_scene_view.proofs.Whole.{fault_there}
use Rattle.cv_scene_view.proofs.games.is_scoped.Goals as goal
use Rattle.cv_scope_rules.proofs.typing.Single.{none_there}

pub returns-in-Ok-clause-scoped : goal.returns-in-Ok-clause-scoped
returns-in-Ok-clause-scoped c = none_there _ c.in-Ok.ensures.none

pub returns-else-is_want_of_memory-clause-scoped : goal.returns-else-is_want_of_memory-clause-scoped
returns-else-is_want_of_memory-clause-scoped c = fault_there _ c.in-Err.fault c.is_want_of_memory.result c.in-Err.ensures.found c.is_want_of_memory.ensures c.if-is_want_of_memory.false
