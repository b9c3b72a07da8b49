use Rattle.std.proofs.Common.{◌-◌, get_or, refl, arith}
use Rattle.cv_parse_names.proofs.indices.Rows.{leaves_more, leaves_end}
use Rattle.cv_parse_names.proofs.indices.writing.write_indices.Goals as goal

pub leaves-preserved : goal.leaves-preserved
leaves-preserved c = record {
  within = omega arith;
  parts =
      leaves_more c.args.parts.now.items c.leaves.parts.items c.write_leaf.new.parts.items c.args.indices.now (get_or c.args.indices.now (c.leaves.at - 1) 0) c.leaves.at (c.leaves.at - 1) 0
      (omega arith) (omega arith) refl c.leaves.invariant.parts c.in_ok-write_leaf.ensures;
}

pub returns : goal.returns
returns c = leaves_end c.args.parts.now.items c.leaves.parts.items c.args.indices.now c.leaves.at (omega arith) c.leaves.invariant.parts
