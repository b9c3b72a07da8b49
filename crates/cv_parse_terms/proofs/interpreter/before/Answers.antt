use Rattle.std.proofs.Common.{reverse, ◌∙◌}
use Rattle.cv_parse_terms.proofs.Walks.{goes_before}
use Rattle.cv_parse_terms.proofs.interpreter.before.Goals as goal

pub returns-clause-names : goal.returns-clause-names
returns-clause-names c =
    goes_before (reverse c.args.names.now.items) _ _ _ _ _ _ _ _ _ _ _ _ _ _ _ _ _ _ _
    c.taken-second.ensures.leaves.0 c.taken-second.ensures.leaves.1
    c.taken-first.ensures.leaves.0 c.taken-first.ensures.leaves.1
    c.taken.ensures.leaves.0 c.taken.ensures.leaves.1 (c.from.ensures ∙ c.in_ok-count.ensures.value)
    c.taken-copied.ensures.leaves.0 c.taken-copied.ensures.leaves.1
    c.taken-bound.ensures.leaves.0 c.taken-bound.ensures.leaves.1
    c.taken-index.ensures.leaves.0 c.taken-index.ensures.leaves.1
    c.in_ok-push.ensures.waits c.in_ok-push-2.ensures.waits c.in_ok-push-3.ensures.waits c.in_ok-push-4.ensures.waits c.in_ok-push-5.ensures.waits c.in_ok-push-6.ensures.waits
