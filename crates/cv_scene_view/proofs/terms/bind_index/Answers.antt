use Rattle.std.proofs.Common.{sym, ◌∙◌}
use Rattle.cv_typing.specs.Tables.{above_of}
use Rattle.cv_scene_view.proofs.Above.{first_stays, other_head}
use Rattle.cv_scene_view.proofs.terms.bind_index.Goals as goal

pub returns-then-contains_key : goal.returns-then-contains_key
returns-then-contains_key c = first_stays (above_of c.args.above.now) c.args.head c.in-Repl.i c.in-Repl.n c.in-Repl.is (sym c.contains_key.ensures ∙ c.if-contains_key.true)

pub returns-in_default : goal.returns-in_default
returns-in_default c = other_head (above_of c.args.above.now) c.args.head c.in_default.not-Repl
