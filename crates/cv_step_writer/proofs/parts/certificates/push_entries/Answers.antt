use Rattle.std.proofs.Common.{arith}
use Rattle.cv_step_writer.specs.Certificates.{entry_tree}
use Rattle.cv_step_writer.proofs.Making.{items_all}
use Rattle.cv_step_writer.proofs.parts.certificates.push_entries.Goals as goal

pub returns : goal.returns
returns c = items_all (entry_tree c.args.pool.now.trees) c.args.entries.now c.items.k c.items.makes.items c.args.makes.now.items (omega arith) c.items.invariant
