use Rattle.std.proofs.Common.{◌≡◌, ◌-◌, ◌≤◌, length, drop}
use Rattle.cv_lex.specs.Lexis.{comment_end}
use Rattle.cv_lex.proofs.scan.comment_len.Given as goal

abbrev pub invariant-loop-at : goal.invariant-loop-at
invariant-loop-at l = record {
  within : l.at ≤ length l.bytes;
  few : l.depth ≤ l.at;
  rest : comment_end l.depth l.at (drop l.at l.bytes) ≡ comment_end 0 2 (drop 2 l.bytes);
}

abbrev pub decreases-loop-at : goal.decreases-loop-at
decreases-loop-at l = length l.bytes - l.at
