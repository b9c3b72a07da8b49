use Rattle.std.proofs.Common.{◌≡◌, ◌++◌, drop}
use Rattle.cv_syntax.proofs.parts.Making.{made}
use Rattle.cv_step_writer.specs.Certificates.{pair_tree}
use Rattle.cv_step_writer.proofs.parts.certificates.push_pairs.Given as goal

abbrev pub invariant-items : goal.invariant-items
invariant-items l = l.makes.items ++ made (pair_tree l.pool.trees) (drop l.k l.pairs) ≡ l.fn.makes.items ++ made (pair_tree l.pool.trees) l.pairs
