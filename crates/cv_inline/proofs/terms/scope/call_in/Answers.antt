use Rattle.std.proofs.Common.{ap, sym}
use Rattle.cv_syntax.proofs.Trees.{empty_at}
use Rattle.cv_meaning.specs.contexts.Inlined as bodies
use Rattle.cv_inline.specs.terms.Scopes.{scope_in}
use Rattle.cv_inline.proofs.terms.scope.call_in.Goals as goal

pub returns-in_err-term : goal.returns-in_err-term
returns-in_err-term c = rw c.from_residual.ensures (λ here. sym (ap (bodies.call_in (scope_in here c.args.scope.now)) (empty_at c.args.pool.now.trees c.args.term c.in_err-term.was)))
