use Rattle.std.proofs.Common.{◌≡◌}
use Rattle.cv_parse_terms.specs.Tables.{closer, ended, parts_of, repeated}
use Rattle.cv_parse_terms.proofs.interpreter.close.Given as goal

abbrev pub invariant-items : goal.invariant-items
invariant-items l = record {
  parts : parts_of l.trail l.names.items ≡ repeated l.counter (closer l.closing) (ended l.closing (parts_of l.fn.trail l.fn.names.items));
  uses : l.trail.uses ≡ l.fn.trail.uses;
}
