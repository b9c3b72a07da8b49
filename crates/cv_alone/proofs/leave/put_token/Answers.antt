use Rattle.std.proofs.Common.{[], sym, ap, ◌∙◌}
use Rattle.cv_lex.specs.View.{token_at}
use Rattle.cv_alone.specs.Alone.{with_spaces}
use Rattle.cv_alone.specs.Parts.{put_if}
use Rattle.cv_alone.proofs.Spacing.{of, spaced_no_token}
use Rattle.cv_alone.proofs.leave.put_token.Goals as goal

pub returns-else-is_left_out : goal.returns-else-is_left_out
returns-else-is_left_out c =
    sym (ap (λ out. with_spaces (of (put_if out (token_at c.args.tokens.now c.args.k) [])) c.args.bytes.now) c.if-is_left_out.false ∙ spaced_no_token c.args.bytes.now)
