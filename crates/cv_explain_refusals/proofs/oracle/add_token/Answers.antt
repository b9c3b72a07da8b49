use Rattle.std.proofs.Common.{sym, subst, arith}
use Rattle.cv_lex.specs.Lexis.{IsToken}
use Rattle.cv_lex.specs.View.{token_at}
use Rattle.cv_lex.proofs.Places.{inner_token}
use Rattle.cv_explain_refusals.proofs.oracle.add_token.Goals as goal

pub push-requires-clause-token : goal.push-requires-clause-token
push-requires-clause-token c =
    let ts = c.args.from.now in
    subst (λ kind. IsToken kind c.text.result.now) (sym c.kind.ensures)
    (subst (IsToken (token_at ts c.args.k).kind) (sym c.text.ensures) (inner_token ts c.len-len.ensures.tokens c.args.k (omega arith)))
