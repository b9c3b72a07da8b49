use Rattle.std.proofs.Common.{◌≡◌, sym, ◌∙◌, subst, arith}
use Rattle.cv_lex.specs.declared.TokenKind.TheVariants.{Ident}
use Rattle.cv_lex.specs.Lexis.{IsToken}
use Rattle.cv_library.specs.Expansions.{renamed}
use Rattle.cv_library.proofs.Renaming.{renamed_token}
use Rattle.cv_library.proofs.put.put_renamed.Goals as goal

pub push-requires-clause-token : goal.push-requires-clause-token
push-requires-clause-token c =
    let text : c.as_str.result.now ≡ renamed c.args.number c.args.name.now = c.as_str.ensures.value ∙ c.in_ok-own.ensures in
    subst (IsToken Ident) (sym text) (renamed_token c.args.number c.args.name.now (omega arith) c.requires.name)
