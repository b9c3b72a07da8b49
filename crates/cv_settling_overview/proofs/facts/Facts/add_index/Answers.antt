use Rattle.std.proofs.Common.{[], ◌∷◌, ◌++◌, sym, subst}
use Rattle.std.specs.Prelude.{flat_map}
use Rattle.cv_settling_overview.specs.Facts.{Keeps, full_parts}
use Rattle.cv_settling_overview.proofs.Keeping.{front_more, front_same, push_index}
use Rattle.cv_settling_overview.proofs.facts.Facts.add_index.Goals as goal

pub returns-clause-knows : goal.returns-clause-knows
returns-clause-knows c = λ trees facts rs n k.
    let old = c.args.self.now in
    let known = flat_map full_parts facts in
    subst (λ xs. Keeps trees facts (rs ++ (c.args.index, n) ∷ []) known xs old.facts.items old.parts.items old.conjuncts) (sym c.in_ok-push.ensures.items)
    (push_index trees facts rs known old.indices.items old.facts.items old.parts.items old.conjuncts (c.args.index, n) k)

pub returns-clause-extends : goal.returns-clause-extends
returns-clause-extends c =
    let old = c.args.self.now in
    record { facts = front_same old.facts.items; parts = front_same old.parts.items; conjuncts = front_same old.conjuncts; indices = front_more old.indices.items (c.args.index ∷ []) c.push.new.self.items c.in_ok-push.ensures.items }
