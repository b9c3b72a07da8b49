use Rattle.std.proofs.Common.{arith, length, ◌≡◌, [], ◌∷◌, ◌++◌, Some, ap, ◌∙◌, subst}
use Rattle.std.specs.Prelude.{flat_map}
use Rattle.cv_syntax.specs.PoolTrees.{tree_at}
use Rattle.cv_settling_overview.specs.declared.facts.Fact.TheVariants as fact
use Rattle.cv_settling_overview.specs.Facts.{Keeps, full_parts}
use Rattle.cv_settling_overview.proofs.Keeping.{extends_on, flat_more, front_more, front_same, held, held_fact, held_tree}
use Rattle.cv_settling_overview.proofs.facts.Facts.hold.Goals as goal

pub returns-clause-knows : goal.returns-clause-knows
returns-clause-knows c = λ facts rs live k.
    let trees = c.args.pool.now.trees in
    let old = c.args.self.now in
    let last : c.len-fact.result ≡ length c.push.new.self.items = omega arith in
    let known = flat_map full_parts facts in
    let n = c.args.condition in
    let t = tree_at trees (Some n) in
    let gs = c.push.new.self.items in
    let new = c.split.new.self in
    let e = c.in_ok-push.ensures.items in
    let mid = held trees facts rs known old.indices.items old.facts.items old.parts.items old.conjuncts k gs n e in
    let here = held_fact trees facts rs known old.indices.items old.facts.items old.parts.items old.conjuncts k gs n c.len-fact.result e last in
    let there = held_tree trees facts rs known old.indices.items old.facts.items old.parts.items old.conjuncts k gs n c.len-fact.result e last in
    subst (λ l. Keeps trees (facts ++ t ∷ []) rs l new.indices.items new.facts.items new.parts.items new.conjuncts) (flat_more facts t) (c.in_ok-split.ensures.takes (facts ++ t ∷ []) rs known live here there mid)

pub returns-clause-facts : goal.returns-clause-facts
returns-clause-facts c = ap (λ v. v.items) c.in_ok-split.ensures.facts ∙ c.in_ok-push.ensures.items

pub returns-clause-extends : goal.returns-clause-extends
returns-clause-extends c =
    let old = c.args.self.now in
    extends_on old _ c.split.new.self
    (record { facts = front_more old.facts.items (fact.Condition c.args.condition ∷ []) c.push.new.self.items c.in_ok-push.ensures.items; parts = front_same old.parts.items; conjuncts = front_same old.conjuncts; indices = front_same old.indices.items })
    c.in_ok-split.ensures.extends
