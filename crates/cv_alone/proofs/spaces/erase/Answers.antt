use Rattle.std.proofs.Common.{arith}
use Rattle.cv_alone.proofs.Spacing.{erased_all, erased_more}
use Rattle.cv_alone.proofs.spaces.erase.Goals as goal

pub bytes-preserved : goal.bytes-preserved
bytes-preserved c = erased_more c.args.bytes.now c.bytes.bytes c.bytes.byte-index c.without_text.result c.bytes.invariant (omega arith) c.without_text.ensures

pub returns : goal.returns
returns c = erased_all c.args.bytes.now c.bytes.bytes c.bytes.byte-index c.bytes.invariant (omega arith)
