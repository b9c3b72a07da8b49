use Rattle.std.proofs.Common.{◌∙◌, ap}
use Rattle.cv.proofs.Reaching.{games_run, games_spent}
use Rattle.cv.proofs.shown.run_games.Goals as goal
use Rattle.cv.proofs.shown.run_games.Goals.{in-Ok, in-Err}

pub returns-clause-run : goal.returns-clause-run
returns-clause-run g c =
    elim c.match-open_verdicts.branch [
      | in-Ok w ↦ games_run c.args.work c.args.file c.args.command _ _ c.requires.games _ _ _ _ _ c.begin-stream.ensures (ap (λ p. p.1) w.verdicts-is) (ap (λ p. p.0.items) w.verdicts-is ∙ w.in-Ok.ensures)
      | in-Err w ↦ games_spent c.args.work c.args.file c.args.command _ _ c.requires.games _ _ _ _ _ c.begin-stream.ensures (ap (λ p. p.1) w.verdicts-is) (ap (λ p. p.0.items) w.verdicts-is ∙ w.new.ensures.items)
    ]
