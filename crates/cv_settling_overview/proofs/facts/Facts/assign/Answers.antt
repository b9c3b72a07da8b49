use Rattle.std.proofs.Common.{arith, length, ◌≡◌, [], ◌∷◌, ◌++◌, Some, subst}
use Rattle.std.specs.Prelude.{flat_map}
use Rattle.cv_syntax.specs.PoolTrees.{tree_at}
use Rattle.cv_settling_overview.specs.declared.facts.Fact.TheVariants as fact
use Rattle.cv_settling_overview.specs.declared.keys.Key.TheVariants.{Value}
use Rattle.cv_settling_overview.specs.Facts.{Keeps, definition_of, full_parts}
use Rattle.cv_settling_overview.proofs.Keeping.{assigned, front_more, front_same, one_assigned}
use Rattle.cv_settling_overview.proofs.facts.Facts.assign.Goals as goal

pub returns-clause-knows : goal.returns-clause-knows
returns-clause-knows c = λ trees facts rs live k.
    let old = c.args.self.now in
    let many : c.len-indices.result ≡ length old.indices.items = omega arith in
    let last : c.len-fact.result ≡ length c.push.new.self.items = omega arith in
    let known = flat_map full_parts facts in
    let n = c.args.term in
    let t = definition_of rs c.args.variable (tree_at trees (Some n)) in
    subst (λ l. Keeps trees (facts ++ t ∷ []) rs l old.indices.items c.push.new.self.items old.parts.items c.add.new.self) (one_assigned facts rs c.args.variable (tree_at trees (Some n)))
    (assigned trees facts rs known old.indices.items old.facts.items old.parts.items old.conjuncts k c.push.new.self.items c.add.new.self c.args.variable c.len-indices.result n c.len-fact.result live many c.in_ok-push.ensures.items last c.in_ok-add.ensures)

pub returns-clause-extends : goal.returns-clause-extends
returns-clause-extends c =
    let old = c.args.self.now in
    record {
      facts = front_more old.facts.items (fact.Value c.args.variable c.len-indices.result c.args.term ∷ []) c.push.new.self.items c.in_ok-push.ensures.items;
      parts = front_same old.parts.items;
      conjuncts = front_more old.conjuncts (record { key = Value c.args.variable c.len-indices.result c.args.term.0; fact = c.len-fact.result; side = 0 } ∷ []) c.add.new.self c.in_ok-add.ensures;
      indices = front_same old.indices.items;
    }
