use Rattle.cv_closure_lines.proofs.scribe.Scribe.+cell.Given as goal

abbrev pub decreases-cell : goal.decreases-cell
decreases-cell l = l.k
