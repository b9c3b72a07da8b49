-- What the rows of processes and of bodies read, as their readers say it.
use Rattle.std.proofs.Common.{ℕ, List, drop, lit<, Result}
use Rattle.cv_syntax.specs.Postorder.{postorder}
use Rattle.cv_parse_notation.specs.declared.sign.Sign.{Sign}
use Rattle.cv_parse_grammar.specs.Processes.{inputs}
use Rattle.cv_parse_grammar.specs.Equivalences.{body}
use Rattle.cv_parse_terms.specs.declared.lookahead.ReadError.{ReadError}
use Rattle.cv_parse_terms.specs.declared.trail.Trail.{Trail}
use Rattle.cv_parse_terms.specs.Gives.{Makes, read_in}
use Rattle.cv_parse_terms.specs.TermRows.{Enters}
use Rattle.cv_parse_terms.proofs.Entries.{enters_says}
use Rattle.cv_parse_declarations.proofs.processes.Says.{deep_runs, says_body, says_inputs}

pub enters_inputs : (n : ℕ) (all : List Sign) (at : ℕ) (old new : Trail) (result : Result ℕ ReadError) → Enters 94 n all at old result new → Makes postorder all old new result (read_in n inputs (drop at all))
enters_inputs n all at old new result h = enters_says postorder n 94 all at old new result (lit< tt) (says_inputs n (deep_runs n)) h

pub enters_body : (n : ℕ) (all : List Sign) (at : ℕ) (old new : Trail) (result : Result ℕ ReadError) → Enters 145 n all at old result new → Makes postorder all old new result (read_in n body (drop at all))
enters_body n all at old new result h = enters_says postorder n 145 all at old new result (lit< tt) (says_body n (deep_runs n)) h

pub ruleset entries = (enters_inputs, enters_body)
