-- The words and symbols that are written are tokens of the lexis.
use Rattle.std.proofs.Common.{◌≡◌, ℕ, List, refl, sym, subst}
use Rattle.cv_lex.specs.Lexis.{IsToken}
use Rattle.cv_lex.specs.declared.TokenKind.{TokenKind}
use Rattle.cv_oracles.specs.declared.words.Word.{Word}
use Rattle.cv_oracles.specs.declared.words.Word.TheVariants.{In, Out, New, Let, Yield, Channel, Open, Close, Comma, Semicolon, Colon, Dot, Equal, Bang, Never}
use Rattle.cv_oracles.specs.Pieces.{kind_of, text_of}

word_is_token : (w : Word) → IsToken (kind_of w) (text_of w)
word_is_token In = refl
word_is_token Out = refl
word_is_token New = refl
word_is_token Let = refl
word_is_token Yield = refl
word_is_token Channel = refl
word_is_token Open = refl
word_is_token Close = refl
word_is_token Comma = refl
word_is_token Semicolon = refl
word_is_token Colon = refl
word_is_token Dot = refl
word_is_token Equal = refl
word_is_token Bang = refl
word_is_token Never = refl

pub word_there : (w : Word) (kind : TokenKind) (text : List ℕ) → kind ≡ kind_of w → text ≡ text_of w → IsToken kind text
word_there w kind text e f = subst (λ x. IsToken x text) (sym e) (subst (IsToken (kind_of w)) (sym f) (word_is_token w))
