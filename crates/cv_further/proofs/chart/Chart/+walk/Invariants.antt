use Rattle.cv_further.proofs.chart.Chart.+walk.Given as goal

abbrev pub decreases-walk : goal.decreases-walk
decreases-walk l = l.start.0
