use Rattle.std.proofs.Common.{not, ap, sym, ◌∙◌}
use Rattle.cv_typing.specs.Lookups.{signature_in}
use Rattle.cv_scope_rules.specs.typing.Typing as typing
use Rattle.cv_typing.proofs.Bridges.{fixed_same}
use Rattle.cv_typing.proofs.faults.is_unfixed.Goals as goal

pub returns-in-New : goal.returns-in-New
returns-in-New c = λ trees arrays. ap not (c.is_fixed.ensures ∙ sym (fixed_same trees c.args.decls.now.list c.in-New.t)) ∙ sym (ap (typing.is_unfixed (signature_in trees c.args.decls.now.list arrays)) c.in-New.is)
