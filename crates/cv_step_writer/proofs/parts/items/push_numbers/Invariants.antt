use Rattle.std.proofs.Common.{◌≡◌, ◌++◌, drop}
use Rattle.cv_syntax.proofs.parts.Making.{made}
use Rattle.cv_step_writer.specs.Items.{number}
use Rattle.cv_step_writer.proofs.parts.items.push_numbers.Given as goal

abbrev pub invariant-items : goal.invariant-items
invariant-items l = l.makes.items ++ made number (drop l.k l.values) ≡ l.fn.makes.items ++ made number l.values
