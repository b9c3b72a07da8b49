use Rattle.std.proofs.Common.{◌≡◌, Option, Some, None, sym, ◌∙◌}
use Rattle.std.specs.Prelude.{MatchOption}
use Rattle.cv_parse_names.proofs.indices.Stacking.{popped_context}
use Rattle.cv_parse_names.proofs.indices.context.next_context.Goals as goal

at_none : {A : Type 0} (r : Option A) (P : Type 0) (Q : A → Type 0) → MatchOption r P Q → r ≡ None → P
at_none None P Q m e = m
at_none (Some x) P Q m e = absurd (cc)

pub returns : goal.returns
returns c = λ names d.
    popped_context names c.args.stack.now.items c.pop.new.self.items c.pop.result c.unwrap_or.result d c.pop.ensures.items
    (λ e. sym c.args.stack.now.ok.0 ∙ (at_none c.pop.result _ _ c.pop.ensures.cases e).0) c.unwrap_or.ensures
