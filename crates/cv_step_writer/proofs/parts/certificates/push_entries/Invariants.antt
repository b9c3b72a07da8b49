use Rattle.std.proofs.Common.{◌≡◌, ◌++◌, drop}
use Rattle.cv_syntax.proofs.parts.Making.{made}
use Rattle.cv_step_writer.specs.Certificates.{entry_tree}
use Rattle.cv_step_writer.proofs.parts.certificates.push_entries.Given as goal

abbrev pub invariant-items : goal.invariant-items
invariant-items l = l.makes.items ++ made (entry_tree l.pool.trees) (drop l.k l.entries) ≡ l.fn.makes.items ++ made (entry_tree l.pool.trees) l.entries
