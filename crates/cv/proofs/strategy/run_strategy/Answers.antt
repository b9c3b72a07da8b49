use Rattle.cv.proofs.Reaching.{search_runs}
use Rattle.cv.proofs.strategy.run_strategy.Goals as goal

pub returns-clause-run : goal.returns-clause-run
returns-clause-run g c =
    search_runs c.args.work c.search-verdicts.new.work c.args.file c.args.command c.search-verdicts.result (record { here = c.requires.game; below = c.requires.below; live = tt }) c.requires.proves c.moves_of.result c.moves_of.ensures _ _ _ _ _ _ _ _ c.begin-stream.ensures c.search-verdicts.ensures
