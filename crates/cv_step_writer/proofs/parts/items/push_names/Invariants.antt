use Rattle.std.proofs.Common.{◌≡◌, ◌++◌, drop}
use Rattle.cv_syntax.proofs.parts.Making.{made}
use Rattle.cv_step_writer.specs.Items.{name}
use Rattle.cv_step_writer.proofs.parts.items.push_names.Given as goal

abbrev pub invariant-items : goal.invariant-items
invariant-items l = l.makes.items ++ made name (drop l.k l.xs) ≡ l.fn.makes.items ++ made name l.xs
