use Rattle.std.proofs.Common.{◌≡◌, ◌+◌, ◌-◌, ◌∙◌, [], sym, ap, length, arith, false, true}
use Rattle.std.proofs.lemmas.Option.{get_or_from_slice_get}
use Rattle.cv_inline.specs.Draws.{is_among, least_free, numbered_text}
use Rattle.cv_inline_draws.specs.names.Texts.{text_at, texts_at}
use Rattle.cv_inline_draws.proofs.names.Tries.{free, passed}
use Rattle.cv_inline_draws.proofs.names.names.free_text.Goals as goal

pub returns-then-not-is_taken-clause-number : goal.returns-then-not-is_taken-clause-number
returns-then-not-is_taken-clause-number c =
    let taken = texts_at c.args.names.now c.args.taken.now in
    let base = text_at c.args.names.now c.args.base in
    let b : base ≡ c.text.result.now = get_or_from_slice_get c.args.names.now c.args.base c.text.result.now [] c.text.ensures in
    let n : c.in_ok-drawn.drawn.number ≡ c.tries.number = c.in_ok-drawn.ensures.number in
    let t : c.as_str.result.now ≡ numbered_text base c.tries.number = c.as_str.ensures.value ∙ (c.in_ok-drawn.ensures.text ∙ (ap (numbered_text c.text.result.now) n ∙ ap (λ u. numbered_text u c.tries.number) (sym b))) in
    let no : is_among taken (numbered_text base c.tries.number) ≡ false = ap (is_among taken) (sym t) ∙ (sym c.is_taken.ensures ∙ c.if-not-is_taken.true) in
    n ∙ (sym (free (λ k. is_among taken (numbered_text base k)) (length c.args.taken.now - c.tries.index) c.tries.number no) ∙ c.tries.invariant.least)

pub returns-then-not-is_taken-clause-text : goal.returns-then-not-is_taken-clause-text
returns-then-not-is_taken-clause-text c =
    let b : text_at c.args.names.now c.args.base ≡ c.text.result.now = get_or_from_slice_get c.args.names.now c.args.base c.text.result.now [] c.text.ensures in
    c.in_ok-drawn.ensures.text ∙ ap (λ u. numbered_text u c.in_ok-drawn.drawn.number) (sym b)

pub tries-preserved : goal.tries-preserved
tries-preserved c =
    let taken = texts_at c.args.names.now c.args.taken.now in
    let base = text_at c.args.names.now c.args.base in
    let b : base ≡ c.text.result.now = get_or_from_slice_get c.args.names.now c.args.base c.text.result.now [] c.text.ensures in
    let n : c.in_ok-drawn.drawn.number ≡ c.tries.number = c.in_ok-drawn.ensures.number in
    let t : c.as_str.result.now ≡ numbered_text base c.tries.number = c.as_str.ensures.value ∙ (c.in_ok-drawn.ensures.text ∙ (ap (numbered_text c.text.result.now) n ∙ ap (λ u. numbered_text u c.tries.number) (sym b))) in
    let yes : is_among taken (numbered_text base c.tries.number) ≡ true = ap (is_among taken) (sym t) ∙ (sym c.is_taken.ensures ∙ c.if-not-is_taken.false) in
    let left : length c.args.taken.now - (c.tries.index + 1) ≡ (length c.args.taken.now - c.tries.index) - 1 = omega arith in
    record {
      number = let e = c.tries.invariant.number in omega arith;
      least = ap (λ k. least_free (λ k. is_among taken (numbered_text base k)) k (c.tries.number + 1)) left ∙ (passed (λ k. is_among taken (numbered_text base k)) (length c.args.taken.now - c.tries.index) c.tries.number (let h = c.tries-test.true in omega arith) yes ∙ c.tries.invariant.least);
    }

pub returns-clause-text : goal.returns-clause-text
returns-clause-text c =
    let b : text_at c.args.names.now c.args.base ≡ c.text-2.result.now = get_or_from_slice_get c.args.names.now c.args.base c.text-2.result.now [] c.text-2.ensures in
    rw b c.numbered-2.ensures.text
