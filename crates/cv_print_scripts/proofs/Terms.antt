-- The text of terms and of lists of terms has their signs.
use Rattle.std.proofs.Common.{◌≡◌, ℕ, nat_lt, Bool, true, false, ◌&&◌, List, [], ◌∷◌, ◌++◌, length, refl, codes}
use Rattle.std.specs.Str.{bytes_eq}
use Rattle.std.proofs.lemmas.Bool.{and_parts}
use Rattle.cv_lex.specs.declared.TokenKind.TheVariants as kind
use Rattle.cv_lex.specs.declared.scan.Piece.TheVariants.{Lexeme}
use Rattle.cv_lex.specs.Lexis.{IsToken, piece}
use Rattle.cv_parse_notation.specs.declared.sign.Mark.{Mark}
use Rattle.cv_parse_notation.specs.declared.sign.Sign.TheVariants as token
use Rattle.cv_parse_tables.specs.spelling.Spelling.{as_told, spelling}
use Rattle.cv_parse_notation.specs.declared.sign.Mark.TheVariants as mark
use Rattle.cv_parse_notation.specs.declared.sign.Sign.{Sign}
use Rattle.cv_print.specs.Terms.{name_text, term_text, terms_text}
use Rattle.cv_print_bytes.specs.Known.{AreNames}
use Rattle.cv_print_bytes.specs.terminals.Signs.{named, one, term_signs, terms_signs}
use Rattle.cv_syntax_trees.specs.Tree.{Tree, Empty, Node}
use Rattle.cv_syntax_trees.specs.declared.head.Head.{Head}
use Rattle.cv_syntax_trees.specs.declared.head.Head.TheVariants.{Leaf, Primed, Read, Apply, Eq, And, Or, Not, Yes, No}
use Rattle.cv_print_scripts.specs.Known.{head_is_known, is_known}
use Rattle.cv_print_scripts.specs.Parted.{is_apart}
use Rattle.cv_print_scripts.proofs.Fronts.{Told, first, none, nothing, ◌and◌, ◌last◌}
use Rattle.cv_print_scripts.proofs.Marks.{before_blank, name, opening, space, symbol, word}
use Rattle.cv_print_scripts.proofs.Tokens.{reads_blank}

pub record Parted (count : ℕ) (h : Head) (a b : Tree) : Type 0 where
  pub here : head_is_known count h ≡ true
  pub left : is_known count a ≡ true
  pub right : is_known count b ≡ true

pub parted : (count : ℕ) (h : Head) (a b : Tree) → is_known count (Node h a b) ≡ true → Parted count h a b
unfolding is_known
parted count h a b k =
    let p = and_parts (head_is_known count h) (is_known count a && is_known count b) k in
    let q = and_parts (is_known count a) (is_known count b) p.1 in
    record { here = p.0; left = q.0; right = q.1 }

module _ {names behind : List (List ℕ)} where
  sure : {p q : Bool} (m : Mark) → ((rest : List ℕ) → piece (spelling m ++ rest) ≡ Lexeme kind.Symbol (length (spelling m))) → ((rest : List ℕ) → is_apart (spelling m ++ rest) ≡ true) → bytes_eq (spelling m) (codes "collision") ≡ false → Told names behind p q (spelling m) (one (as_told m))
  sure m is apart other = record { front = symbol m is apart other }

  a_word : (m : Mark) → IsToken kind.Ident (spelling m) → bytes_eq (spelling m) (codes "collision") ≡ false → Told names behind false true (spelling m) (one (as_told m))
  a_word m is other = record { front = word m is other }

  blank : {p q : Bool} → Told names behind p q (codes " ") []
  blank = record { front = space }

  a_bracket : {p q : Bool} → Told names behind p q (codes "(") (one mark.Open)
  a_bracket = record { front = opening }

  close : {p q : Bool} → Told names behind p q (codes ")") (one mark.Close)
  close = sure mark.Close (λ rest. refl) (λ rest. refl) refl

  prime : {p q : Bool} → Told names behind p q (codes "'") (one mark.Prime)
  prime = sure mark.Prime (λ rest. refl) (λ rest. refl) refl

  open_square : {p q : Bool} → Told names behind p q (codes "[") (one mark.OpenSquare)
  open_square = sure mark.OpenSquare (λ rest. refl) (λ rest. refl) refl

  close_square : {p q : Bool} → Told names behind p q (codes "]") (one mark.CloseSquare)
  close_square = sure mark.CloseSquare (λ rest. refl) (λ rest. refl) refl

  -- with one text behind them, no flag is left
  comma : {p : Bool} → Told names behind p false (codes ",") (one mark.Comma)
  comma = sure mark.Comma (λ rest. refl) (λ rest. refl) refl

  either : {p : Bool} → Told names behind p false (codes "||") (one mark.Either)
  either = sure mark.Either (λ rest. refl) (λ rest. refl) refl

  conjoined : {p : Bool} → Told names behind p false (codes "&&") (one mark.Both)
  conjoined = sure mark.Both (λ rest. refl) (λ rest. refl) refl

  space_first : {p : Bool} → Told names behind p false (codes " ") []
  space_first = blank

  comma_space : {p q : Bool} → Told names behind p q (codes ", ") (one mark.Comma)
  comma_space = first comma last blank

  equal_space : {p q : Bool} → Told names behind p q (codes "= ") (one mark.Equal)
  equal_space {p = p} = record { front = record { goes = λ rest more h w. before_blank p mark.Equal refl rest more (reads_blank 32 rest more refl w) } }

  equals : {p q : Bool} → Told names behind p q (codes " = ") (one mark.Equal)
  equals = first space_first last equal_space

  conjunction : {p q : Bool} → Told names behind p q (codes " && ") (one mark.Both)
  conjunction = first space_first and conjoined last blank

  disjunction : {p q : Bool} → Told names behind p q (codes " || ") (one mark.Either)
  disjunction = first space_first and either last blank

  negation : {q : Bool} → Told names behind false q (codes "not(") (one mark.Not ++ one mark.Open)
  negation = first (a_word mark.Not refl refl) last a_bracket

  no_text : {p : Bool} → Told names behind p true [] []
  no_text = record { front = none }

  pub no_mark : {p : Bool} → Told names behind p p [] []
  no_mark = record { front = nothing }

  module _ (are : AreNames names) where
    a_name : (x : ℕ) → nat_lt x (length names) ≡ true → Told names behind false true (name_text names x) (named x)
    a_name x k = record { front = name are x k }

    mutual
      unfolding term_text term_signs

      pub of_term : (t : Tree) → is_known (length names) t ≡ true → Told names behind false true (term_text names t) (term_signs t)
      of_term (Node (Leaf x) a b) k = let p = parted (length names) (Leaf x) a b k in a_name x p.here
      of_term (Node (Primed x) a b) k = let p = parted (length names) (Primed x) a b k in first (a_name x p.here) last prime
      of_term (Node (Read x) a b) k = let p = parted (length names) (Read x) a b k in first (a_name x p.here) and open_square and of_terms no_mark a p.left last close_square
      of_term (Node (Apply f) a b) k = let p = parted (length names) (Apply f) a b k in first (a_name f p.here) and a_bracket and of_terms no_mark a p.left last close
      of_term (Node Eq a b) k = let p = parted (length names) Eq a b k in first a_bracket and of_term a p.left and equals and of_term b p.right last close
      of_term (Node And a b) k = let p = parted (length names) And a b k in first a_bracket and of_term a p.left and conjunction and of_term b p.right last close
      of_term (Node Or a b) k = let p = parted (length names) Or a b k in first a_bracket and of_term a p.left and disjunction and of_term b p.right last close
      of_term (Node Not a b) k = let p = parted (length names) Not a b k in first negation and of_term a p.left last close
      of_term (Node Yes a b) k = a_word mark.True refl refl
      of_term (Node No a b) k = a_word mark.False refl refl
      of_term t k = no_text

      -- a list of terms, with a text before the first
      pub of_terms : {q : Bool} {before : List ℕ} {s : List Sign} → Told names behind q false before s → (t : Tree) → is_known (length names) t ≡ true → Told names behind q true (terms_text names before t) (terms_signs s t)
      of_terms f Empty k = no_text
      of_terms f (Node h a b) k = let p = parted (length names) h a b k in first f and of_term a p.left last of_terms comma_space b p.right

    -- in square brackets
    pub of_subscript : {p q : Bool} (t : Tree) → is_known (length names) t ≡ true → Told names behind p q (codes "[" ++ terms_text names [] t ++ codes "]") (token.Mark mark.OpenSquare ∷ (terms_signs [] t ++ token.Mark mark.CloseSquare ∷ []))
    of_subscript t k = first open_square and of_terms no_mark t k last close_square
