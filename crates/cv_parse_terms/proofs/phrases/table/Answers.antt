use Rattle.std.proofs.Common.{refl}
use Rattle.cv_parse_terms.proofs.phrases.table.Goals as goal

pub returns : goal.returns
returns c = rw (c.copy_from_slice.ensures.after, c.copy_from_slice-2.ensures.after, c.copy_from_slice-3.ensures.after, c.copy_from_slice-4.ensures.after) refl
