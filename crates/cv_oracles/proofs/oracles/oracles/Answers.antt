use Rattle.std.proofs.Common.{◌∙◌, arith}
use Rattle.cv_oracles.specs.Readings.{behind, defines}
use Rattle.cv_oracles.proofs.Walking.{few_names, found_all, found_next}
use Rattle.cv_oracles.proofs.oracles.oracles.Goals as goal

pub add-requires : goal.add-requires
add-requires c =
    let few = few_names c.args.tokens.now c.args.from c.args.to c.tokens.reading c.tokens.found.items c.tokens.names c.tokens.k c.tokens.invariant (omega (arith, c.tokens-test.true)) in
    omega (arith, few, c.tokens-test.true)

pub tokens-preserved : goal.tokens-preserved
tokens-preserved c =
    let r = c.tokens.reading in
    let k = c.tokens.k in
    let reading = c.in_ok-advance.ensures.reading ∙ (λ i. behind r (c.kind_at-kind.ensures i) (c.text_at-text.ensures i) (c.text_at.ensures i) k) in
    let is = c.defines-defines.ensures ∙ (λ i. defines r (c.kind_at-kind.ensures i) (c.text_at-text.ensures i)) in
    found_next c.args.tokens.now c.args.from c.args.to r c.tokens.found.items c.tokens.names k c.tokens.invariant (omega (arith, c.tokens-test.true)) c.advance.new.self _ _ c.add.new.found.items c.add.new.names reading is c.text_at-text.ensures c.in_ok-add.ensures.found c.in_ok-add.ensures.names

pub returns : goal.returns
returns c = found_all c.args.tokens.now c.args.from c.args.to c.tokens.reading c.tokens.found.items c.tokens.names c.tokens.k c.tokens.invariant (omega (arith, c.tokens-test.false))
