use Rattle.std.proofs.Common.{◌∙◌, arith}
use Rattle.cv_scope.specs.Held.{names_held}
use Rattle.cv_scope.proofs.Constants.{constants_step}
use Rattle.cv_scope.proofs.names.NameKinds.note_constants.Goals as goal

pub loop-k-preserved : goal.loop-k-preserved
loop-k-preserved c = record {
  constants = λ x. constants_step c.args.pool.now.trees (names_held c.loop-k.self).constant (names_held c.note.new.self).constant c.args.decls.now.list c.loop-k.k c.constant_at.result c.constant_at.ensures c.in_ok-note.ensures.constant (omega arith) x ∙ c.loop-k.invariant.constants x;
  sites = c.in_ok-note.ensures.sites ∙ c.loop-k.invariant.sites;
}
