use Rattle.std.proofs.Common.{◌≡◌, ap, sym, ◌∙◌, arith, refl, Err}
use Rattle.cv_library.proofs.HeadWalk.{head_ends, head_goes, head_over, head_stops, least_more, least_whole}
use Rattle.cv_library.proofs.heads.head_end.Goals as goal

pub loop-k-init : goal.loop-k-init
loop-k-init c = record { read = refl; far = omega arith }

pub returns-in-None : goal.returns-in-None
returns-in-None c =
    record { value = sym (head_stops c.args.tokens.now c.loop-k.k c.loop-k.awaited _ _ c.kind.ensures c.text.ensures (omega arith) c.in-None.ensures) ∙ c.loop-k.invariant.read; within = tt }

pub loop-k-preserved : goal.loop-k-preserved
loop-k-preserved c =
    record {
      read = sym (head_goes c.args.tokens.now c.loop-k.k c.loop-k.awaited _ _ c.kind.ensures c.text.ensures (omega arith) c.in-Some.next c.in-Some.ensures c.if-is_nothing.ensures) ∙ c.loop-k.invariant.read;
      far = omega (arith, c.loop-k.invariant.far, least_more c.loop-k.awaited c.in-Some.next _ _ c.in-Some.ensures);
    }

pub returns-then-is_nothing : goal.returns-then-is_nothing
returns-then-is_nothing c =
    record {
      value = sym (head_ends c.args.tokens.now c.loop-k.k c.loop-k.awaited _ _ c.kind.ensures c.text.ensures (omega arith) c.in-Some.next c.in-Some.ensures c.if-is_nothing.ensures) ∙ c.loop-k.invariant.read;
      within = (omega (arith, c.loop-k.invariant.far, least_more c.loop-k.awaited c.in-Some.next _ _ c.in-Some.ensures, least_whole c.in-Some.next c.if-is_nothing.ensures), omega arith);
    }

pub returns : goal.returns
returns c =
    let same : c.len-count.result ≡ c.loop-k.k = omega arith in
    record { value = ap Err same ∙ sym (head_over c.args.tokens.now c.loop-k.k c.loop-k.awaited (omega arith)) ∙ c.loop-k.invariant.read; within = tt }
