use Rattle.std.proofs.Common.{◌≡◌, ◌+◌, ◌-◌, ◌≤◌, length, drop}
use Rattle.std.specs.List.{prefix_len}
use Rattle.cv_lex.specs.Lexis.{is_inner}
use Rattle.cv_lex.proofs.scan.ident_len.Given as goal

abbrev pub invariant-loop-len : goal.invariant-loop-len
invariant-loop-len l = record { within : l.len ≤ length l.bytes; counted : l.len + prefix_len is_inner (drop l.len l.bytes) ≡ prefix_len is_inner l.bytes }

abbrev pub decreases-loop-len : goal.decreases-loop-len
decreases-loop-len l = length l.bytes - l.len
