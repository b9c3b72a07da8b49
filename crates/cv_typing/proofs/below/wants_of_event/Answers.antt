use Rattle.std.proofs.Common.{ap, sym, ◌∙◌}
use Rattle.cv_syntax.specs.PoolTrees.{tree_at}
use Rattle.cv_scope_rules.specs.typing.Signature.{names_in}
use Rattle.cv_scope_rules.specs.typing.Wants as wants
use Rattle.cv_typing.proofs.Bridges.{event_same}
use Rattle.cv_typing.proofs.below.wants_of_event.Goals as goal

pub returns-clause-wants : goal.returns-clause-wants
returns-clause-wants c = λ trees arrays. ap wants.Messages (ap (λ a. names_in (tree_at trees a)) c.event_arguments.ensures ∙ sym (event_same trees c.args.decls.now.list c.args.e))
