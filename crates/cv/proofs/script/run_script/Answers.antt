use Rattle.cv.proofs.Reaching.{script_runs}
use Rattle.cv.proofs.script.run_script.Goals as goal

pub returns-clause-run : goal.returns-clause-run
returns-clause-run g c =
    script_runs c.args.work c.follow_block-verdicts.new.work c.args.file c.args.command c.args.script c.follow_block-verdicts.result c.end_under.result (record { here = c.requires.game; below = c.requires.below; live = c.requires.steps.live }) c.end_under.ensures c.requires.nodes _ _ _ _ _ _ _ _ c.begin-stream.ensures _ c.deref.ensures.value c.follow_block-verdicts.ensures
