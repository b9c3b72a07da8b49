use Rattle.std.proofs.Common.{Bool, Option, Some, None, ap₂, sym, ◌∙◌}
use Rattle.std.specs.Prelude.{if◌then◌else◌}
use Rattle.cv_scope_rules.specs.declared.typing.fault.Fault.{Fault}
use Rattle.cv_scope_rules.specs.declared.typing.fault.Fault.TheVariants.{IndexAsMessage, NotFixed}
use Rattle.cv_typing.proofs.faults.value_fault.Goals as goal

abbrev chosen : Bool → Bool → Option Fault
chosen x y = if x then Some IndexAsMessage else if y then Some NotFixed else None

pub returns-then-is_unfixed : goal.returns-then-is_unfixed
returns-then-is_unfixed c = λ trees arrays. sym (ap₂ chosen (sym (c.is_index_sent.ensures trees arrays) ∙ c.if-is_index_sent.false) (sym (c.is_unfixed.ensures trees arrays) ∙ c.if-is_unfixed.true))

pub returns : goal.returns
returns c = λ trees arrays. sym (ap₂ chosen (sym (c.is_index_sent.ensures trees arrays) ∙ c.if-is_index_sent.false) (sym (c.is_unfixed.ensures trees arrays) ∙ c.if-is_unfixed.false))
