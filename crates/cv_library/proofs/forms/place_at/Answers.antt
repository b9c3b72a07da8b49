use Rattle.std.proofs.Common.{arith}
use Rattle.cv_library.proofs.Putting.{text_some}
use Rattle.cv_library.proofs.forms.place_at.Goals as goal

pub overflow_add-brace : goal.overflow_add-brace
overflow_add-brace c = let more = c.text_at.ensures.within (text_some _ _ c.if-eq-2.ensures (λ e. cc)) in omega arith
