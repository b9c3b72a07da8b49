use Rattle.std.proofs.Common.{arith, length, ◌≡◌, [], ◌∷◌, ◌++◌, Some, subst}
use Rattle.std.specs.Prelude.{flat_map}
use Rattle.cv_syntax.specs.PoolTrees.{tree_at}
use Rattle.cv_settling_overview.specs.declared.facts.Fact.TheVariants as fact
use Rattle.cv_settling_overview.specs.declared.keys.Key.TheVariants.{Denial}
use Rattle.cv_settling_overview.specs.Facts.{Keeps, denial_of, full_parts}
use Rattle.cv_settling_overview.proofs.Keeping.{denied, front_more, front_same, one_denied}
use Rattle.cv_settling_overview.proofs.facts.Facts.deny.Goals as goal

pub returns-clause-knows : goal.returns-clause-knows
returns-clause-knows c = λ trees facts rs live k.
    let old = c.args.self.now in
    let last : c.len-fact.result ≡ length c.push.new.self.items = omega arith in
    let known = flat_map full_parts facts in
    let n = c.args.condition in
    let t = denial_of (tree_at trees (Some n)) in
    subst (λ l. Keeps trees (facts ++ t ∷ []) rs l old.indices.items c.push.new.self.items old.parts.items c.add.new.self) (one_denied facts (tree_at trees (Some n)))
    (denied trees facts rs known old.indices.items old.facts.items old.parts.items old.conjuncts k c.push.new.self.items c.add.new.self n c.len-fact.result live c.in_ok-push.ensures.items last c.in_ok-add.ensures)

pub returns-clause-extends : goal.returns-clause-extends
returns-clause-extends c =
    let old = c.args.self.now in
    record {
      facts = front_more old.facts.items (fact.Failure c.args.condition ∷ []) c.push.new.self.items c.in_ok-push.ensures.items;
      parts = front_same old.parts.items;
      conjuncts = front_more old.conjuncts (record { key = Denial (Some c.args.condition.0); fact = c.len-fact.result; side = 0 } ∷ []) c.add.new.self c.in_ok-add.ensures;
      indices = front_same old.indices.items;
    }
