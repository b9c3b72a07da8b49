use Rattle.std.proofs.Common.{sym, ◌∙◌, refl, arith}
use Rattle.cv_lex.proofs.Places.{tokens_some}
use Rattle.cv_oracles.proofs.Walking.{declarations_go, declarations_over, declarations_stop}
use Rattle.cv_oracles.proofs.begins.declarations_end.Goals as goal

pub tokens-init : goal.tokens-init
tokens-init c = record { rest = refl; within = tokens_some c.args.tokens.now c.len-tokens.ensures.tokens }

pub returns-then-ends_declarations-clause-value : goal.returns-then-ends_declarations-clause-value
returns-then-ends_declarations-clause-value c =
    sym (declarations_stop c.args.tokens.now c.tokens.k _ c.tokens.invariant.within c.tokens-test.ensures.value c.text_at.ensures c.if-ends_declarations.ensures) ∙ c.tokens.invariant.rest

pub overflow_add-k : goal.overflow_add-k
overflow_add-k c =
    let more = c.tokens-test.ensures.within refl in
    omega arith

pub tokens-preserved : goal.tokens-preserved
tokens-preserved c =
    record {
      rest = sym (declarations_go c.args.tokens.now c.tokens.k _ c.tokens.invariant.within c.tokens-test.ensures.value c.text_at.ensures c.if-ends_declarations.ensures) ∙ c.tokens.invariant.rest;
      within = c.tokens-test.ensures.within refl;
    }

pub returns-clause-value : goal.returns-clause-value
returns-clause-value c = sym (declarations_over c.args.tokens.now c.tokens.k c.tokens-test.ensures.value) ∙ c.tokens.invariant.rest
