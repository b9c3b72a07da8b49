use Rattle.std.proofs.Common.{sym, ◌∙◌, refl, arith}
use Rattle.cv_library.proofs.Placing.{body_more, body_over}
use Rattle.cv_library.proofs.forms.body_end.Goals as goal

pub body-init : goal.body-init
body-init c = record { read = refl; depth = omega arith }

pub returns-in-None : goal.returns-in-None
returns-in-None c =
    let more = c.body-test.ensures.within refl in
    record {
      value = sym (body_more c.args.tokens.now c.body.k c.body.depth _ _ (omega arith) c.body-test.ensures.value c.text_at.ensures.value c.in-None.ensures.value) ∙ c.body.invariant.read;
      within = (omega arith, omega arith);
    }

pub body-preserved : goal.body-preserved
body-preserved c =
    let more = c.body-test.ensures.within refl in
    let few = c.in-Some.ensures.few in
    record {
      read = sym (body_more c.args.tokens.now c.body.k c.body.depth _ _ (omega arith) c.body-test.ensures.value c.text_at.ensures.value c.in-Some.ensures.value) ∙ c.body.invariant.read;
      depth = omega arith;
    }

pub returns : goal.returns
returns c =
    record { value = sym (body_over c.args.tokens.now c.body.k c.body.depth c.body-test.ensures.value) ∙ c.body.invariant.read; within = tt }

pub depth_behind-requires : goal.depth_behind-requires
depth_behind-requires c =
    let more = c.body-test.ensures.within refl in
    omega arith

pub overflow_add-k : goal.overflow_add-k
overflow_add-k c =
    let more = c.body-test.ensures.within refl in
    omega arith
