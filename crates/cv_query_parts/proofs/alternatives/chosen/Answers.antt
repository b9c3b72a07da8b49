use Rattle.std.proofs.Common.{ap, sym, ◌∙◌}
use Rattle.cv_query_certificates.specs.Alternatives.{chosen_by}
use Rattle.cv_query_parts.specs.Alternatives.{alternatives_seen, lists}
use Rattle.cv_query_parts.proofs.Choosing.{count_lists, live_at, only_one, some_named}
use Rattle.cv_query_parts.proofs.alternatives.chosen.Goals as goal

pub returns-then-only-2-clause-atoms : goal.returns-then-only-2-clause-atoms
returns-then-only-2-clause-atoms c = λ trees.
    only_one trees (lists c.args.alternatives.now) (count_lists c.args.alternatives.now ∙ c.if-only-2.true) c.alternative_at-then-only-2.result c.alternative_at-then-only-2.ensures
    ∙ ap (chosen_by (alternatives_seen trees c.args.alternatives.now)) (sym c.in-None.is)

pub returns-then-only-2-clause-live : goal.returns-then-only-2-clause-live
returns-then-only-2-clause-live c = λ n a. live_at n (lists c.args.alternatives.now) 1 c.alternative_at-then-only-2.result c.alternative_at-then-only-2.ensures a

pub returns-else-only-clause-atoms : goal.returns-else-only-clause-atoms
returns-else-only-clause-atoms c = λ trees.
    some_named trees (lists c.args.alternatives.now) c.in-Some.n (λ e. c.if-only.false (sym (count_lists c.args.alternatives.now) ∙ e)) c.alternative_at.result c.alternative_at.ensures
    ∙ ap (chosen_by (alternatives_seen trees c.args.alternatives.now)) (sym c.in-Some.is)

pub returns-else-only-clause-live : goal.returns-else-only-clause-live
returns-else-only-clause-live c = λ n a. live_at n (lists c.args.alternatives.now) c.in-Some.n c.alternative_at.result c.alternative_at.ensures a
