use Rattle.std.proofs.Common.{arith, sym, ◌∙◌}
use Rattle.cv_scene_view.specs.Kept.{scene_of}
use Rattle.cv_query_parts.proofs.pairs.Meeting.{past_replications}
use Rattle.cv_query_parts.proofs.pairs.routes.rows_at.Goals as goal

pub returns-then-place-gt4294967295 : goal.returns-then-place-gt4294967295
returns-then-place-gt4294967295 c =
    c.new.ensures.items ∙ sym (past_replications (scene_of c.args.work.now.pool c.args.work.now.decls c.args.game) c.args.place (omega (arith, c.requires.fits)))
