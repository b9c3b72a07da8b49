use Rattle.std.proofs.Common.{◌≡◌, take}
use Rattle.cv_query_parts.specs.Alternatives.{each_with, lists}
use Rattle.cv_query_parts.proofs.alternatives.each_with.Given as goal

abbrev pub invariant-firsts : goal.invariant-firsts
invariant-firsts l = lists l.found.items ≡ each_with (lists (take l.k l.firsts)) (lists l.others)
