use Rattle.std.proofs.Common.{◌≡◌, ◌++◌, drop}
use Rattle.cv_syntax.proofs.parts.Making.{made}
use Rattle.cv_step_writer.specs.Items.{term}
use Rattle.cv_step_writer.proofs.parts.items.push_terms.Given as goal

abbrev pub invariant-items : goal.invariant-items
invariant-items l = l.makes.items ++ made (term l.pool.trees) (drop l.k l.terms) ≡ l.fn.makes.items ++ made (term l.pool.trees) l.terms
