use Rattle.std.proofs.Common.{◌≡◌, length, ap, sym, ◌∙◌, subst}
use Rattle.cv_alone.specs.Sizes.{AreWithin}
use Rattle.cv_alone.proofs.Lexing.{tokens_within}
use Rattle.cv_alone.proofs.leave.leave_alone.Goals as goal

pub leave_query-requires : goal.leave_query-requires
leave_query-requires c =
    let same : length c.deref.result.now ≡ length c.deref_mut.result.now = ap length (c.deref.ensures.value ∙ sym c.deref_mut.ensures.value) in
    subst (λ n. AreWithin n c.in-Ok.tokens) same (tokens_within c.deref.result.now c.in-Ok.tokens c.in-Ok.ensures.ok)
