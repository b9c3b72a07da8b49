-- The tokens of texts: marks, names, numbers and the word `find`.
use Rattle.std.proofs.Common.{◌≡◌, ◌≢◌, ℕ, zero, suc, ◌^◌, ◌<◌, Bool, true, false, ◌&&◌, nat_lt, if◌then◌else◌, List, [], ◌∷◌, ◌++◌, length, drop, Some, refl, ap, sym, ◌∙◌, subst, arith, codes, decimal, unwrap_or}
use Rattle.std.specs.Prelude.{slice_get}
use Rattle.std.specs.Str.{bytes_eq}
use Rattle.std.proofs.lemmas.Bool.{false_from_ne_true, ltb-true}
use Rattle.std.specs.Str.Parse.{AllDigits}
use Rattle.std.proofs.lemmas.Fmt.{decimal_is_IsNumeral}
use Rattle.std.proofs.lemmas.Str.Parse.{digit_from_value}
use Rattle.std.proofs.lemmas.Option.{slice_get-get_or}
use Rattle.std.proofs.lemmas.Slice.Eq.{bytes_eq-Decides}
use Rattle.cv_lex.specs.declared.TokenKind.{TokenKind}
use Rattle.cv_lex.specs.declared.TokenKind.TheVariants as kind
use Rattle.cv_lex.specs.declared.scan.Piece.TheVariants.{Lexeme}
use Rattle.cv_lex.specs.Lexis.{has_front, piece, IsToken, a_comment, a_symbol, comment_end, longest, symbols}
use Rattle.cv_parse_notation.specs.declared.script.ScriptWord.TheVariants.{Plain}
use Rattle.cv_parse_notation.specs.declared.sign.Mark.{Mark}
use Rattle.cv_parse_notation.specs.declared.sign.Mark.TheVariants as mark
use Rattle.cv_parse_notation.specs.declared.sign.Sign.TheVariants as sign
use Rattle.cv_print.specs.Terms.{name_text}
use Rattle.cv_parse_tables.specs.terminals.Signs.{place_of, with_name, step_before, token_step, text_step, word_step, unnamed_step, one_find}
use Rattle.cv_parse_tables.specs.spelling.Spelling.{as_told, spelling, mark_of_text}
use Rattle.cv_parse_tables.proofs.terminals.Naming.{only_place, with_name_old}
use Rattle.cv_parse_tables.proofs.spelling.Table.{found, find_is_none}
use Rattle.cv_print_bytes.specs.terminals.Signs.{name_sign, named, one}
use Rattle.cv_print_bytes.specs.Known.{AreNames, IsName}
use Rattle.cv_print_bytes.proofs.Bytes.{word_before, decimal_before, number_before}
use Rattle.cv_print_bytes.proofs.Fronts.{is_apart, begins, Front}
use Rattle.cv_print_bytes.proofs.Shown.{Means, shows_blank, shows_token, no_star}

-- what a token means

-- a word that is no collision means the same before any other
pub before_any : (names : List (List ℕ)) (k : TokenKind) (w : List ℕ) (next : List ℕ) (counts : _) → bytes_eq w (codes "collision") ≡ false → step_before names counts k w next ≡ token_step names counts k w
before_any names k w next counts e = ap (λ x. if x && bytes_eq next (codes "new") then unnamed_step names counts else token_step names counts k w) e

word_means : (names : List (List ℕ)) (m : Mark) → bytes_eq (spelling m) (codes "collision") ≡ false → Means names kind.Ident (spelling m) (sign.Mark (as_told m))
word_means names m e = record { step = λ counts next. before_any names kind.Ident (spelling m) next counts e ∙ ap (text_step names counts (spelling m)) (found m) }

pub symbol_means : (names : List (List ℕ)) (m : Mark) → bytes_eq (spelling m) (codes "collision") ≡ false → Means names kind.Symbol (spelling m) (sign.Mark (as_told m))
symbol_means names m e = record { step = λ counts next. before_any names kind.Symbol (spelling m) next counts e ∙ ap (text_step names counts (spelling m)) (found m) }

number_means : (names : List (List ℕ)) (v : ℕ) (w : List ℕ) → bytes_eq w (codes "collision") ≡ false → Means names (kind.Number v) w (sign.Number v)
number_means names v w e = record { step = λ counts next. before_any names (kind.Number v) w next counts e }

find_means : (names : List (List ℕ)) → Means names kind.Ident (codes "find") (sign.Find 0)
find_means names = record { step = λ counts next. ap (text_step names counts (codes "find")) find_is_none }

pub differs : (a b : List ℕ) → a ≢ b → bytes_eq a b ≡ false
differs a b n = false_from_ne_true (bytes_eq a b) (λ t. n ((bytes_eq-Decides a b).0 t))

known_word : (names : List (List ℕ)) (counts : _) (text : List ℕ) (n : ℕ) → bytes_eq text (codes "find") ≡ false → n ≡ place_of names text → with_name names text ≡ names → word_step names counts text ≡ record { signs = sign.Word n Plain ∷ []; names = names; counts = counts }
known_word names counts text n e place old =
    ap (λ b. if b then (record { signs = sign.Find (suc counts.finds) ∷ []; names = names; counts = one_find counts }) else (record { signs = sign.Word (place_of names text) Plain ∷ []; names = with_name names text; counts = counts })) e
    ∙ (λ i. record { signs = sign.Word (sym place i) Plain ∷ []; names = old i; counts = counts })

name_means : (names : List (List ℕ)) → AreNames names → (x : ℕ) (text : List ℕ) → slice_get names x ≡ Some text → Means names kind.Ident text (name_sign x)
name_means names are zero text h =
    let same : codes "bool" ≡ text = cc (are.bool_first, h) in
    subst (λ w. Means names kind.Ident w (sign.Mark mark.Bool)) same (word_means names mark.Bool refl)
name_means names are (suc x) text h =
    let is : IsName text = are.each x text h in
    let no_collision : text ≢ codes "collision" = λ e. let m : mark_of_text text ≡ Some mark.Collision = ap mark_of_text e ∙ found mark.Collision in cc (m, is.no_mark) in
    let place : suc x ≡ place_of names text = only_place names text (suc x) h (λ p e. are.apart (suc x) p text h e) in
    let old : with_name names text ≡ names = with_name_old names text (suc x) h in
    record { step = λ counts next. before_any names kind.Ident text next counts (differs text (codes "collision") no_collision) ∙ (ap (text_step names counts text) is.no_mark ∙ known_word names counts text (suc x) (differs text (codes "find") is.not_find) place old) }

name_token : (names : List (List ℕ)) → AreNames names → (x : ℕ) (text : List ℕ) → slice_get names x ≡ Some text → IsToken kind.Ident text
name_token names are zero text h = let same : codes "bool" ≡ text = cc (are.bool_first, h) in subst (IsToken kind.Ident) same refl
name_token names are (suc x) text h = (are.each x text h).token

-- texts of one token, and blanks

pub space : {names : List (List ℕ)} {p q : Bool} → Front names p q (codes " ") []
space {names = names} {p = p} = record { goes = λ rest more h w. (begins p (32 ∷ rest) refl, shows_blank names 32 rest more refl w) }

pub symbol : {names : List (List ℕ)} {p q : Bool} (m : Mark) → ((rest : List ℕ) → piece (spelling m ++ rest) ≡ Lexeme kind.Symbol (length (spelling m))) → ((rest : List ℕ) → is_apart (spelling m ++ rest) ≡ true) → bytes_eq (spelling m) (codes "collision") ≡ false → Front names p q (spelling m) (one (as_told m))
symbol {names = names} {p = p} m is apart other = record {
  goes = λ rest more h w. (begins p (spelling m ++ rest) (apart rest), shows_token names kind.Symbol (spelling m) rest (sign.Mark (as_told m)) more (is rest) (symbol_means names m other) w);
}

pub word : {names : List (List ℕ)} (m : Mark) → IsToken kind.Ident (spelling m) → bytes_eq (spelling m) (codes "collision") ≡ false → Front names false true (spelling m) (one (as_told m))
word {names = names} m is other = record {
  goes = λ rest more h w. (tt, shows_token names kind.Ident (spelling m) rest (sign.Mark (as_told m)) more (word_before (spelling m) rest is h) (word_means names m other) w);
}

pub find_word : {names : List (List ℕ)} → Front names false true (codes "find") (sign.Find 0 ∷ [])
find_word {names = names} = record {
  goes = λ rest more h w. (tt, shows_token names kind.Ident (codes "find") rest (sign.Find 0) more (word_before (codes "find") rest refl h) (find_means names) w);
}

pub open_piece : (rest : List ℕ) → has_front (codes "*") rest ≡ false → piece (40 ∷ rest) ≡ Lexeme kind.Symbol 1
open_piece rest e = ap (λ c. if c then a_comment (comment_end 0 2 (drop 2 (40 ∷ rest))) else a_symbol (longest symbols (40 ∷ rest))) e

pub opening : {names : List (List ℕ)} {p q : Bool} → Front names p q (codes "(") (one mark.Open)
opening {names = names} {p = p} = record {
  goes = λ rest more h w. (begins p (40 ∷ rest) refl, shows_token names kind.Symbol (codes "(") rest (sign.Mark mark.Open) more (open_piece rest (no_star names rest more w)) (symbol_means names mark.Open refl) w);
}

pub name : {names : List (List ℕ)} → AreNames names → (x : ℕ) → nat_lt x (length names) ≡ true → Front names false true (name_text names x) (named x)
name {names = names} are x known =
    let there = slice_get-get_or names x [] (ltb-true x (length names) known) in
    let is : slice_get names x ≡ Some (name_text names x) = there ∙ ap Some (sym (ap (λ o. unwrap_or o []) there)) in
    record { goes = λ rest more h w. (tt, shows_token names kind.Ident (name_text names x) rest (name_sign x) more (word_before (name_text names x) rest (name_token names are x (name_text names x) is) h) (name_means names are x (name_text names x) is) w) }

pub no_word : (v : ℕ) → v < 2 ^ 64 → decimal v ≢ codes "collision"
no_word v small e = omega (arith, digit_from_value 99 (subst (AllDigits 10) e (decimal_is_IsNumeral v small).0.1).0)

pub number : {names : List (List ℕ)} (v : ℕ) → nat_lt v (2 ^ 64) ≡ true → Front names false true (decimal v) (sign.Number v ∷ [])
number {names = names} v known =
    let small : v < 2 ^ 64 = ltb-true v (2 ^ 64) known in
    record { goes = λ rest more h w. (tt, shows_token names (kind.Number v) (decimal v) rest (sign.Number v) more (decimal_before v rest small h) (number_means names v (decimal v) (differs (decimal v) (codes "collision") (no_word v small))) w) }

pub zero_number : {names : List (List ℕ)} → Front names false true (codes "0") (sign.Number 0 ∷ [])
zero_number {names = names} = record {
  goes = λ rest more h w. (tt, shows_token names (kind.Number 0) (codes "0") rest (sign.Number 0) more (number_before (codes "0") rest 0 (omega arith) (omega arith, tt) refl (omega arith) h) (number_means names 0 (codes "0") refl) w);
}

-- marks of one character

pub closing : {names : List (List ℕ)} {p q : Bool} → Front names p q (codes ")") (one mark.Close)
closing = symbol mark.Close (λ rest. refl) (λ rest. refl) refl

pub opening_square : {names : List (List ℕ)} {p q : Bool} → Front names p q (codes "[") (one mark.OpenSquare)
opening_square = symbol mark.OpenSquare (λ rest. refl) (λ rest. refl) refl

pub prime : {names : List (List ℕ)} {p q : Bool} → Front names p q (codes "'") (one mark.Prime)
prime = symbol mark.Prime (λ rest. refl) (λ rest. refl) refl

pub closing_square : {names : List (List ℕ)} {p q : Bool} → Front names p q (codes "]") (one mark.CloseSquare)
closing_square = symbol mark.CloseSquare (λ rest. refl) (λ rest. refl) refl
