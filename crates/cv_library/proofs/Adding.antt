-- Tokens that are written one behind another.
use Rattle.std.proofs.Common.{◌≡◌, ◌+◌, ◌-◌, List, [], ◌∷◌, ◌++◌, length, ap, sym, ◌∙◌, arith}
use Rattle.std.proofs.lemmas.List.{append_assoc, append-nil}
use Rattle.std.proofs.lemmas.List.Edits.{length-insert}
use Rattle.cv_lex.specs.Lexis.{Token, end_token}
use Rattle.cv_lex.specs.View.{with_token}
use Rattle.cv_lex.proofs.Listing.{with_token_append}
use Rattle.cv_library.specs.Written.{Adds}

pub adds_none : (old : List Token) → Adds old [] old
adds_none old = λ front end e. e ∙ ap (λ l. l ++ end_token end ∷ []) (sym (append-nil front))

pub adds_token : (old new : List Token) (t : Token) → new ≡ with_token old t → Adds old (t ∷ []) new
adds_token old new t e = λ front end f. e ∙ ap (λ l. with_token l t) f ∙ with_token_append front (end_token end) t

pub adds_both : (a b c : List Token) (more others : List Token) → Adds a more b → Adds b others c → Adds a (more ++ others) c
adds_both a b c more others f g = λ front end e. g (front ++ more) end (f front end e) ∙ ap (λ l. l ++ end_token end ∷ []) (append_assoc front more others)

pub length_with_token : (ts : List Token) (t : Token) → length (with_token ts t) ≡ length ts + 1
length_with_token ts t = length-insert ts (length ts - 1) t (omega arith)
