use Rattle.std.proofs.Common.{arith}
use Rattle.cv_parse.proofs.Plants.{declared_next}
use Rattle.cv_parse.proofs.naming.note_declared.Goals as goal

pub declared-preserved : goal.declared-preserved
declared-preserved c = declared_next c.args.decls.now.list c.declared.k _ _ _ _ (omega arith) c.declared.invariant c.use_at.ensures c.in_ok-note_use.ensures
