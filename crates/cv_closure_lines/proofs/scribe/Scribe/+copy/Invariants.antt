use Rattle.cv_closure_lines.proofs.scribe.Scribe.+copy.Given as goal

abbrev pub decreases-copy : goal.decreases-copy
decreases-copy l = l.t.0
