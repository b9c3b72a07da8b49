use Rattle.std.proofs.Common.{sym, ◌∙◌, refl, arith}
use Rattle.cv_oracles.proofs.Walking.{process_go, process_over, process_stop}
use Rattle.cv_oracles.proofs.begins.process_begin.Goals as goal

pub returns-then-is_process-clause-value : goal.returns-then-is_process-clause-value
returns-then-is_process-clause-value c =
    sym (process_stop c.args.tokens.now c.tokens.depth c.tokens.k _ c.tokens.invariant.within c.tokens-test.ensures.value c.text_at-text.ensures c.if-is_process.ensures) ∙ c.tokens.invariant.rest

pub returns-then-is_process-clause-within : goal.returns-then-is_process-clause-within
returns-then-is_process-clause-within c =
    let more = c.tokens-test.ensures.within refl in
    (omega (arith, c.tokens.invariant.after), more)

pub overflow_add-result : goal.overflow_add-result
overflow_add-result c =
    let more = c.tokens-test.ensures.within refl in
    omega arith

pub open_behind-depth-requires : goal.open_behind-depth-requires
open_behind-depth-requires c =
    let more = c.tokens-test.ensures.within refl in
    omega (arith, c.tokens.invariant.depth)

pub overflow_add-k : goal.overflow_add-k
overflow_add-k c =
    let more = c.tokens-test.ensures.within refl in
    omega arith

pub tokens-preserved : goal.tokens-preserved
tokens-preserved c =
    let few = c.open_behind-depth.ensures.few in
    record {
      rest = sym (process_go c.args.tokens.now c.tokens.depth c.tokens.k _ c.tokens.invariant.within c.tokens-test.ensures.value c.text_at-text.ensures _ c.if-is_process.ensures c.open_behind-depth.ensures.value) ∙ c.tokens.invariant.rest;
      after = omega (arith, c.tokens.invariant.after);
      within = c.tokens-test.ensures.within refl;
      depth = omega (arith, c.tokens.invariant.depth, few);
    }

pub returns-clause-value : goal.returns-clause-value
returns-clause-value c = sym (process_over c.args.tokens.now c.tokens.depth c.tokens.k c.tokens-test.ensures.value) ∙ c.tokens.invariant.rest
