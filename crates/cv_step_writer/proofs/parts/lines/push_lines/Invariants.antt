use Rattle.std.proofs.Common.{◌≡◌, ◌++◌, drop}
use Rattle.cv_syntax.proofs.parts.Making.{made}
use Rattle.cv_step_writer.specs.Derivations.{line_tree}
use Rattle.cv_step_writer.proofs.parts.lines.push_lines.Given as goal

abbrev pub invariant-items : goal.invariant-items
invariant-items l = l.makes.items ++ made (line_tree l.pool.trees) (drop l.k l.lines) ≡ l.fn.makes.items ++ made (line_tree l.pool.trees) l.lines
