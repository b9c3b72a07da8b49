use Rattle.std.proofs.Common.{ap, sym, ◌∙◌}
use Rattle.cv_typing.specs.Lookups.{signature_in}
use Rattle.cv_scope_rules.specs.typing.Signature as signature
use Rattle.cv_typing.specs.Tables.{above_of}
use Rattle.cv_syntax.proofs.Trees.{empty_at}
use Rattle.cv_typing.proofs.terms.sort_of_term.Goals as goal

pub returns-in_err-term : goal.returns-in_err-term
returns-in_err-term c = c.from_residual.ensures ∙ sym (ap (signature.sort_of (signature_in c.args.pool.now.trees c.args.decls.now.list c.args.arrays.now) (above_of c.args.above.now)) (empty_at c.args.pool.now.trees c.args.term c.in_err-term.was))
