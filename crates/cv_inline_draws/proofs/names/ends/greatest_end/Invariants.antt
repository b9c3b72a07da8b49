use Rattle.std.proofs.Common.{◌≡◌, ◌<◌, ◌^◌, drop, max}
use Rattle.cv_inline.specs.Draws.{greatest_end}
use Rattle.cv_inline_draws.specs.names.Texts.{texts_at}
use Rattle.cv_inline_draws.proofs.names.ends.greatest_end.Given as goal

abbrev pub invariant-loop-x : goal.invariant-loop-x
invariant-loop-x l = record {
  greatest : max l.greatest (greatest_end (texts_at l.names (drop l.x-index l.taken))) ≡ greatest_end (texts_at l.names l.taken);
  few : l.greatest < 2 ^ 40;
}
