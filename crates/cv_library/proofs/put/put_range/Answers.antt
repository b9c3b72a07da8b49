use Rattle.std.proofs.Common.{length, ap, sym, ◌∙◌, subst, arith}
use Rattle.std.specs.Prelude.{slice_range}
use Rattle.cv_lex.specs.View.{with_token}
use Rattle.cv_library.specs.Written.{Adds}
use Rattle.cv_library.proofs.Adding.{adds_both, adds_none, adds_token, length_with_token}
use Rattle.cv_library.proofs.Lists.{range_none, range_push}
use Rattle.cv_library.proofs.put.put_range.Goals as goal

pub range-init : goal.range-init
range-init c =
    record { adds = subst (λ l. Adds c.args.out.now l c.args.out.now) (sym (range_none c.args.tokens.now c.args.from)) (adds_none c.args.out.now); len = omega arith }

pub push-requires-clause-room : goal.push-requires-clause-room
push-requires-clause-room c = omega (arith, c.range.invariant.len, c.requires.room)

pub range-preserved : goal.range-preserved
range-preserved c =
    let ts = c.args.tokens.now in
    let k = c.range.k in
    let e = c.in_ok-push.ensures.ok ∙ (λ i. with_token c.range.out (record { kind = c.kind.ensures i; text = c.text.ensures i; offset = c.offset.ensures i })) in
    record {
      adds = subst (λ l. Adds c.args.out.now l c.push.new.self) (sym (range_push ts c.args.from k (omega arith) (omega arith))) (adds_both c.args.out.now c.range.out c.push.new.self (slice_range ts c.args.from k) _ c.range.invariant.adds (adds_token c.range.out c.push.new.self _ e));
      len = omega (arith, c.range.invariant.len, ap length e ∙ length_with_token c.range.out _);
    }
