-- The fixed texts of terms and processes.
use Rattle.std.proofs.Common.{ℕ, Bool, true, false, List, [], ◌∷◌, ◌++◌, refl, codes}
use Rattle.cv_lex.specs.declared.TokenKind.TheVariants as kind
use Rattle.cv_parse_notation.specs.declared.sign.Mark.TheVariants as mark
use Rattle.cv_parse_notation.specs.declared.sign.Sign.TheVariants as sign
use Rattle.cv_print_bytes.specs.terminals.Signs.{one}
use Rattle.cv_print_bytes.proofs.Fronts.{begins, Front, first, ◌and◌, ◌last◌}
use Rattle.cv_print_bytes.proofs.Shown.{shows_blank, shows_token}
use Rattle.cv_print_bytes.proofs.Tokens.{symbol, symbol_means, word, space, opening, closing, find_word}

module _ {names : List (List ℕ)} where
  -- of terms

  comma : {p : Bool} → Front names p false (codes ",") (one mark.Comma)
  comma = symbol mark.Comma (λ rest. refl) (λ rest. refl) refl

  either : {p : Bool} → Front names p false (codes "||") (one mark.Either)
  either = symbol mark.Either (λ rest. refl) (λ rest. refl) refl

  both : {p : Bool} → Front names p false (codes "&&") (one mark.Both)
  both = symbol mark.Both (λ rest. refl) (λ rest. refl) refl

  less : {p : Bool} → Front names p false (codes "<=") (one mark.AtMost)
  less = symbol mark.AtMost (λ rest. refl) (λ rest. refl) refl

  close : {p : Bool} → Front names p false (codes ")") (one mark.Close)
  close = closing

  blank : {p : Bool} → Front names p false (codes " ") []
  blank = space

  pub comma_space : {p q : Bool} → Front names p q (codes ", ") (one mark.Comma)
  comma_space = first comma last space

  comma_blank : {p : Bool} → Front names p false (codes ", ") (one mark.Comma)
  comma_blank = comma_space

  equal_space : {p q : Bool} → Front names p q (codes "= ") (one mark.Equal)
  equal_space {p = p} = record {
    goes = λ rest more h w. (begins p (61 ∷ 32 ∷ rest) refl, shows_token names kind.Symbol (codes "=") (32 ∷ rest) (sign.Mark mark.Equal) more refl (symbol_means names mark.Equal refl) (shows_blank names 32 rest more refl w));
  }

  pub equals : {p q : Bool} → Front names p q (codes " = ") (one mark.Equal)
  equals = first blank last equal_space

  pub conjunction : {p q : Bool} → Front names p q (codes " && ") (one mark.Both)
  conjunction = first blank and both last space

  pub disjunction : {p q : Bool} → Front names p q (codes " || ") (one mark.Either)
  disjunction = first blank and either last space

  pub negation : {q : Bool} → Front names false q (codes "not(") (one mark.Not ++ one mark.Open)
  negation = first (word mark.Not refl refl) last opening

  -- of processes

  -- the blank tells it from `:=`
  pub colon_space : {p : Bool} → Front names p false (codes ": ") (one mark.Colon)
  colon_space {p = p} = record {
    goes = λ rest more h w. (begins p (58 ∷ 32 ∷ rest) refl, shows_token names kind.Symbol (codes ":") (32 ∷ rest) (sign.Mark mark.Colon) more refl (symbol_means names mark.Colon refl) (shows_blank names 32 rest more refl w));
  }

  pub at_most : {p : Bool} → Front names p false (codes " <= ") (one mark.AtMost)
  at_most = first blank and less last space

  pub semicolon : {p q : Bool} → Front names p q (codes ";") (one mark.Semicolon)
  semicolon = symbol mark.Semicolon (λ rest. refl) (λ rest. refl) refl

  pub bang : {p : Bool} → Front names p false (codes "!") (one mark.Bang)
  bang = symbol mark.Bang (λ rest. refl) (λ rest. refl) refl

  pub input : Front names false false (codes "in(") (one mark.In ++ one mark.Open)
  input = first (word mark.In refl refl) last opening

  pub output : Front names false false (codes "out(") (one mark.Out ++ one mark.Open)
  output = first (word mark.Out refl refl) last opening

  pub comma_opening : Front names true false (codes ", (") (one mark.Comma ++ one mark.Open)
  comma_opening = first comma_blank last opening

  pub two_closing : {q : Bool} → Front names true q (codes "));") (one mark.Close ++ (one mark.Close ++ one mark.Semicolon))
  two_closing = first close and close last semicolon

  pub event_space : Front names false false (codes "event ") (one mark.EventWord)
  event_space = first (word mark.EventWord refl refl) last space

  pub new_space : Front names false false (codes "new ") (one mark.New)
  new_space = first (word mark.New refl refl) last space

  pub let_space : Front names false false (codes "let ") (one mark.Let)
  let_space = first (word mark.Let refl refl) last space

  pub if_space : Front names false false (codes "if ") (one mark.If)
  if_space = first (word mark.If refl refl) last space

  pub space_in : Front names true true (codes " in") (one mark.In)
  space_in = first space last word mark.In refl refl

  pub space_then : Front names true true (codes " then") (one mark.Then)
  space_then = first space last word mark.Then refl refl

  pub such_that : Front names true false (codes " suchthat ") (one mark.Suchthat)
  such_that = first space and word mark.Suchthat refl refl last space

  pub defined_opening : Front names false false (codes "defined(") (one mark.Defined ++ one mark.Open)
  defined_opening = first (word mark.Defined refl refl) last opening

  pub closing_both : Front names true false (codes ") && ") (one mark.Close ++ one mark.Both)
  closing_both = first close and blank and both last space

  pub find_at : Front names false false (codes "find @") (sign.Find 0 ∷ sign.Mark mark.At ∷ [])
  find_at = first find_word and blank last symbol mark.At (λ rest. refl) (λ rest. refl) refl

  -- before the end of a line, which tells it from `||`
  pub bar_newline : Front names false false (codes "|\n") (one mark.Bar)
  bar_newline = record {
    goes = λ rest more h w. (tt, shows_token names kind.Symbol (codes "|") (10 ∷ rest) (sign.Mark mark.Bar) more refl (symbol_means names mark.Bar refl) (shows_blank names 10 rest more refl w));
  }
