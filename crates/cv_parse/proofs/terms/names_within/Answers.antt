use Rattle.std.proofs.Common.{arith, ap₂, sym, ◌∙◌}
use Rattle.std.specs.Prelude.{max}
use Rattle.cv_parse.proofs.Reached.{within_next}
use Rattle.cv_parse.proofs.terms.names_within.Goals as goal

pub signs-preserved : goal.signs-preserved
signs-preserved c = c.max-names.ensures ∙ ap₂ max c.signs.invariant c.names_by.ensures ∙ sym (within_next c.args.known c.args.signs.now _ c.signs.k (omega arith))
