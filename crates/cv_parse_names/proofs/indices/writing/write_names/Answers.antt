use Rattle.std.proofs.Common.{arith}
use Rattle.cv_parse_names.proofs.indices.Rows.{ends_end}
use Rattle.cv_parse_names.proofs.indices.writing.write_names.Goals as goal

pub returns : goal.returns
returns c = ends_end c.args.parts.now.items c.ends.parts.items c.args.indices.now c.ends.index (omega arith) c.ends.invariant
