use Rattle.std.proofs.Common.{sym, ◌∙◌}
use Rattle.cv_typing.specs.Tables.{above_of}
use Rattle.cv_typing.proofs.Removals.{bound_new, bound_old, inserted, not_bound}
use Rattle.cv_typing.proofs.locals.note.Goals as goal

pub returns-in_ok-insert : goal.returns-in_ok-insert
returns-in_ok-insert c = inserted c.args.x c.args.sort c.args.sorts.now c.insert.new.self c.in_ok-insert.ensures.updates ∙ bound_new (above_of c.args.sorts.now) c.args.x c.args.sort (not_bound _ (sym c.contains_key.ensures ∙ c.if-not-contains_key.true))

pub returns-else-not-contains_key : goal.returns-else-not-contains_key
returns-else-not-contains_key c = bound_old (above_of c.args.sorts.now) c.args.x c.args.sort (sym c.contains_key.ensures ∙ c.if-not-contains_key.false)
