-- What a process of the source begins with, by the first sign of its translation.
use Rattle.std.proofs.Common.{◌≡◌, ℕ, Bool, true, false, if◌then◌else◌, ◌||◌, ◌⊎◌, inl, inr, List, [], ◌∷◌, length, codes, refl, ap, sym, ◌∙◌, subst, Option, Some, None}
use Rattle.std.specs.Str.{bytes_eq}
use Rattle.std.proofs.lemmas.Bool.{both_ways, cases_Bool}
use Rattle.cv_lex.specs.declared.TokenKind.{TokenKind}
use Rattle.cv_lex.specs.declared.TokenKind.TheVariants as kind
use Rattle.cv_lex.specs.declared.scan.Piece.TheVariants.{Lexeme}
use Rattle.cv_lex.specs.Lexis.{Token, piece}
use Rattle.cv_parse_notation.specs.declared.sign.Mark.{Mark}
use Rattle.cv_parse_notation.specs.declared.sign.Mark.TheVariants as mark
use Rattle.cv_parse_notation.specs.declared.sign.Sign.{Sign}
use Rattle.cv_parse_notation.specs.declared.sign.Sign.TheVariants as sign
use Rattle.cv_parse_notation.specs.Marks.{same_mark}
use Rattle.cv_parse_notation.specs.Spells.{kind_of, next_is, is_mark}
use Rattle.cv_parse_tables.proofs.spelling.Table.{find_is_none, found}
use Rattle.cv_parse_tables.proofs.terminals.Naming.{text_test}
use Rattle.cv_parse_tables.specs.spelling.Spelling.{as_told, mark_of_text}
use Rattle.cv_parse_tables.specs.terminals.Signs.{first_text}
use Rattle.cv_oracles.specs.declared.form.Form.TheVariants.{Itself, Refused, Bang, Receives, Yields, Sends, SendsNothing, Draws, Binds}
use Rattle.cv_oracles.specs.declared.form.Mode.TheVariants as mode
use Rattle.cv_oracles.specs.Regions.{is_name}
use Rattle.cv_oracles.specs.Steps.{is_number, returned}
use Rattle.cv_oracle_laws.specs.Tokens.{word, symbol, Is, Lack}
use Rattle.cv_oracle_laws.proofs.Runs.{Opened, State, at, move, move_by, one, writes}
use Rattle.cv_oracle_laws.proofs.Moves.{at_text, input_opens, input_repeats, input_defines, output_opens, output_ends, output_returns, output_records, output_tests, output_finds, output_names}
use Rattle.cv_oracle_laws.proofs.Texts.{same_kind}
use Rattle.cv_oracle_laws.proofs.Telling.{Fit, Tell}

-- words that close a test

-- a text of a mark has a sign of that mark
pub its_mark : (m : Mark) (text : List ℕ) → mark_of_text text ≡ Some m → bytes_eq text (codes "find") ≡ false → bytes_eq text (codes "collision") ≡ false → (w : TokenKind) → is_number w ≡ false → piece text ≡ Lexeme w (length text) →
    (t : Token) (s : Sign) → Is t text → Fit t s → (k : Mark) × (s ≡ sign.Mark k) × (as_told k ≡ m)
its_mark m text g c d w b l t (sign.Word n x) e f = absurd (let z : None ≡ Some m = sym f.0 ∙ ap mark_of_text e ∙ g in cc)
its_mark m text g c d w b l t (sign.Number v) e f = absurd (both_ways (is_number t.kind) (ap is_number (same_kind t.kind w (length t.text) (length text) (sym f.1 ∙ ap piece e ∙ l)) ∙ b) (ap is_number f.0))
its_mark m text g c d w b l t (sign.Find n) e f = absurd (both_ways (bytes_eq t.text (codes "find")) (ap (λ x. bytes_eq x (codes "find")) e ∙ c) (ap (λ x. bytes_eq x (codes "find")) f))
its_mark m text g c d w b l t (sign.Unnamed n) e f = absurd (both_ways (bytes_eq t.text (codes "collision")) (ap (λ x. bytes_eq x (codes "collision")) e ∙ d) (ap (λ x. bytes_eq x (codes "collision")) f))
its_mark m text g c d w b l t (sign.Mark k) e f = (k, refl, let z : Some (as_told k) ≡ Some m = sym f.0 ∙ ap mark_of_text e ∙ g in cc)

its_sign : (m : Mark) → ((k : Mark) → as_told k ≡ m → same_mark k m ≡ true) → (t : Token) (s : Sign) → (k : Mark) × (s ≡ sign.Mark k) × (as_told k ≡ m) → is_mark m (kind_of s) ≡ true
its_sign m same t s x = subst (λ s. is_mark m (kind_of s) ≡ true) (sym x.1) (same x.0 x.2)

told_else : (m : Mark) → as_told m ≡ mark.Else → same_mark m mark.Else ≡ true
told_else mark.Else e = refl
told_else m e = absurd (cc)

told_orfind : (m : Mark) → as_told m ≡ mark.Orfind → same_mark m mark.Orfind ≡ true
told_orfind mark.Orfind e = refl
told_orfind m e = absurd (cc)

lacking : (text : List ℕ) (m : Mark) → ((t : Token) (s : Sign) → Is t text → Fit t s → is_mark m (kind_of s) ≡ true) → (t : Token) (ws : List Token) (gs : List Sign) → Is t text → Tell (t ∷ ws) gs → next_is (is_mark m) gs ≡ false → ⊥
lacking text m signs t ws [] e a h = a
lacking text m signs t ws (s ∷ gs) e a h = both_ways (is_mark m (kind_of s)) h (signs t s e a.0)

module _ (o : Token) (fs : List Opened) where
  pub lack_else : (us : List Token) (gs : List Sign) → Tell (writes (at mode.Behind o fs) us) gs → next_is (is_mark mark.Else) gs ≡ false → Lack us (codes "else")
  lack_else [] gs a h = refl
  lack_else (t ∷ us) gs a h = elim (text_test t.text (codes "else")) [
    | inl e ↦ absurd (lacking (codes "else") mark.Else (λ t s e f. its_sign mark.Else told_else t s (its_mark mark.Else (codes "else") (found mark.Else) refl refl kind.Ident refl refl t s e f)) t _ gs e.1 (subst (λ l. Tell l gs) (at_text (at mode.Behind o fs) t us (codes "else") (move (at mode.Behind o fs) t t.kind (codes "else") (first_text us)) e.1 refl).written a) h)
    | inr e ↦ e
  ]

  pub lack_orfind : (us : List Token) (gs : List Sign) → Tell (writes (at mode.Behind o fs) us) gs → next_is (is_mark mark.Orfind) gs ≡ false → Lack us (codes "orfind")
  lack_orfind [] gs a h = refl
  lack_orfind (t ∷ us) gs a h = elim (text_test t.text (codes "orfind")) [
    | inl e ↦ absurd (lacking (codes "orfind") mark.Orfind (λ t s e f. its_sign mark.Orfind told_orfind t s (its_mark mark.Orfind (codes "orfind") (found mark.Orfind) refl refl kind.Ident refl refl t s e f)) t _ gs e.1 (subst (λ l. Tell l gs) (at_text (at mode.Behind o fs) t us (codes "orfind") (move (at mode.Behind o fs) t t.kind (codes "orfind") (first_text us)) e.1 refl).written a) h)
    | inr e ↦ e
  ]

-- an output process, by the mark of what is written first

pub data Begins (t : Token) (us : List Token) : Option Mark → Type 0 where
  opening : Is t (codes "(") → Begins t us (Some mark.Open)
  ends : Is t (codes "end") → Begins t us (Some mark.Yield)
  returns : Is t (codes "return") → Lack us (codes "(") → Begins t us (Some mark.Out)
  sends : Is t (codes "return") → bytes_eq (first_text us) (codes "(") ≡ true → Begins t us (Some mark.Out)
  records : Is t (codes "event") → Begins t us (Some mark.EventWord)
  tests : Is t (codes "if") → Begins t us (Some mark.If)
  finds : Is t (codes "find") → Begins t us None
  draws : is_name t.kind t.text ≡ true → bytes_eq (first_text us) (codes "<-") ≡ true → Begins t us (Some mark.New)
  binds : is_name t.kind t.text ≡ true → bytes_eq (first_text us) (codes "<-") ≡ false → Begins t us (Some mark.Let)
  refused : Begins t us (Some mark.Becomes)

pub record Beginning (o : Token) (fs : List Opened) (t : Token) (us : List Token) : Type 0 where
  pub mark : Option Mark
  pub first : Token
  pub others : List Token
  pub written : writes (at mode.Output o fs) (t ∷ us) ≡ first ∷ others
  pub has : mark_of_text first.text ≡ mark
  pub begins : Begins t us mark

module _ (o : Token) (fs : List Opened) (t : Token) (us : List Token) where
  abbrev s : State
  s = at mode.Output o fs

  refused_there : bytes_eq t.text (codes "(") ≡ false → bytes_eq t.text (codes "end") ≡ false → bytes_eq t.text (codes "return") ≡ false → bytes_eq t.text (codes "event") ≡ false →
      bytes_eq t.text (codes "if") ≡ false → bytes_eq t.text (codes "find") ≡ false → is_name t.kind t.text ≡ false → Beginning o fs t us
  refused_there a b c d f g e = record {
    mark = Some mark.Becomes;
    first = symbol (codes ":=");
    others = _;
    written = (one s t us _ (
        ap (move_by s t t.kind t.text) (λ i.
        if a i then (Itself, mode.Output) else (if b i then (Yields, mode.Behind) else (if c i then returned (first_text us) else (if d i then (Itself, mode.Line)
        else (if f i || g i then (Itself, mode.Test) else (if e i then (if bytes_eq (first_text us) (codes "<-") then (Draws, mode.Arrow) else (Binds, mode.Colon)) else (Refused, mode.Behind)))))))
        )).written;
    has = found mark.Becomes;
    begins = refused;
  }

  named_there : is_name t.kind t.text ≡ true → (b : Bool) → bytes_eq (first_text us) (codes "<-") ≡ b → Beginning o fs t us
  named_there e true f = record {
    mark = Some mark.New;
    first = word (codes "new");
    others = _;
    written = (one s t us _ (output_names o fs t (first_text us) e ∙ ap (λ b. move_by s t t.kind t.text (if b then (Draws, mode.Arrow) else (Binds, mode.Colon))) f)).written;
    has = found mark.New;
    begins = draws e f;
  }
  named_there e false f = record {
    mark = Some mark.Let;
    first = word (codes "let");
    others = _;
    written = (one s t us _ (output_names o fs t (first_text us) e ∙ ap (λ b. move_by s t t.kind t.text (if b then (Draws, mode.Arrow) else (Binds, mode.Colon))) f)).written;
    has = found mark.Let;
    begins = binds e f;
  }

  returned_there : Is t (codes "return") → (b : Bool) → bytes_eq (first_text us) (codes "(") ≡ b → Beginning o fs t us
  returned_there e false f = record { mark = Some mark.Out; first = word (codes "out"); others = _; written = (output_returns o fs t us e f).written; has = found mark.Out; begins = returns e f }
  returned_there e true f = record {
    mark = Some mark.Out;
    first = word (codes "out");
    others = _;
    written = (at_text s t us (codes "return") _ e (ap (λ b. move_by s t t.kind (codes "return") (if b then (Sends, mode.Payload 0) else (SendsNothing, mode.Behind))) f)).written;
    has = found mark.Out;
    begins = sends e f;
  }

  pub beginning : Beginning o fs t us
  beginning =
      elim (text_test t.text (codes "(")) [
        | inl e ↦ record { mark = Some mark.Open; first = t; others = _; written = (output_opens o fs t us e.1).written; has = ap mark_of_text e.1 ∙ found mark.Open; begins = opening e.1 }
        | inr a ↦ elim (text_test t.text (codes "end")) [
          | inl e ↦ record { mark = Some mark.Yield; first = word (codes "yield"); others = _; written = (output_ends o fs t us e.1).written; has = found mark.Yield; begins = ends e.1 }
          | inr b ↦ elim (text_test t.text (codes "return")) [
            | inl e ↦ returned_there e.1 (bytes_eq (first_text us) (codes "(")) refl
            | inr c ↦ elim (text_test t.text (codes "event")) [
              | inl e ↦ record { mark = Some mark.EventWord; first = t; others = _; written = (output_records o fs t us e.1).written; has = ap mark_of_text e.1 ∙ found mark.EventWord; begins = records e.1 }
              | inr d ↦ elim (text_test t.text (codes "if")) [
                | inl e ↦ record { mark = Some mark.If; first = t; others = _; written = (output_tests o fs t us e.1).written; has = ap mark_of_text e.1 ∙ found mark.If; begins = tests e.1 }
                | inr f ↦ elim (text_test t.text (codes "find")) [
                  | inl e ↦ record { mark = None; first = t; others = _; written = (output_finds o fs t us e.1).written; has = ap mark_of_text e.1 ∙ find_is_none; begins = finds e.1 }
                  | inr g ↦ elim (cases_Bool (is_name t.kind t.text)) [
                    | inl e ↦ named_there e (bytes_eq (first_text us) (codes "<-")) refl
                    | inr e ↦ refused_there a b c d f g e
                  ]
                ]
              ]
            ]
          ]
        ]
      ]

-- the same of an input process

pub data Enters (t : Token) : Option Mark → Type 0 where
  opening : Is t (codes "(") → Enters t (Some mark.Open)
  repeats : Is t (codes "foreach") → Enters t (Some mark.Bang)
  defines : is_name t.kind t.text ≡ true → Enters t (Some mark.In)
  number : is_number t.kind ≡ true → Enters t None
  refused : Enters t (Some mark.Becomes)

pub record Entering (o : Token) (fs : List Opened) (t : Token) (us : List Token) : Type 0 where
  pub mark : Option Mark
  pub first : Token
  pub others : List Token
  pub written : writes (at mode.Input o fs) (t ∷ us) ≡ first ∷ others
  pub has : (is_number first.kind ≡ true) ⊎ (mark_of_text first.text ≡ mark)
  pub enters : Enters t mark
  pub own : (first ≡ t) ⊎ (is_number first.kind ≡ false)

module _ (o : Token) (fs : List Opened) (t : Token) (us : List Token) where
  abbrev r : State
  r = at mode.Input o fs

  other_input : bytes_eq t.text (codes "(") ≡ false → bytes_eq t.text (codes "foreach") ≡ false → is_name t.kind t.text ≡ false → (b : Bool) → is_number t.kind ≡ b → Entering o fs t us
  other_input a c e true f = record {
    mark = None;
    first = t;
    others = _;
    written = (one r t us _ (
        ap (move_by r t t.kind t.text) (λ i. if a i then (Itself, mode.Input) else (if c i then (Bang, mode.Index) else (if e i then (Receives, mode.Head) else (if f i then (Itself, mode.Behind) else (Refused, mode.Behind)))))
        )).written;
    has = inl f;
    enters = number f;
    own = inl refl;
  }
  other_input a c e false f = record {
    mark = Some mark.Becomes;
    first = symbol (codes ":=");
    others = _;
    written = (one r t us _ (
        ap (move_by r t t.kind t.text) (λ i. if a i then (Itself, mode.Input) else (if c i then (Bang, mode.Index) else (if e i then (Receives, mode.Head) else (if f i then (Itself, mode.Behind) else (Refused, mode.Behind)))))
        )).written;
    has = inr (found mark.Becomes);
    enters = refused;
    own = inr refl;
  }

  pub entering : Entering o fs t us
  entering =
      elim (text_test t.text (codes "(")) [
        | inl e ↦ record { mark = Some mark.Open; first = t; others = _; written = (input_opens o fs t us e.1).written; has = inr (ap mark_of_text e.1 ∙ found mark.Open); enters = opening e.1; own = inl refl }
        | inr a ↦ elim (text_test t.text (codes "foreach")) [
          | inl e ↦ record { mark = Some mark.Bang; first = symbol (codes "!"); others = _; written = (input_repeats o fs t us e.1).written; has = inr (found mark.Bang); enters = repeats e.1; own = inr refl }
          | inr c ↦ elim (cases_Bool (is_name t.kind t.text)) [
            | inl e ↦ record { mark = Some mark.In; first = word (codes "in"); others = _; written = (input_defines o fs t us e).written; has = inr (found mark.In); enters = defines e; own = inr refl }
            | inr e ↦ other_input a c e (is_number t.kind) refl
          ]
        ]
      ]

-- by the sign that is read first

pub begun : (o : Token) (fs : List Opened) (t : Token) (us : List Token) (m : Mark) (gs : List Sign) → as_told m ≡ m → Tell (writes (at mode.Output o fs) (t ∷ us)) (sign.Mark m ∷ gs) → Begins t us (Some m)
begun o fs t us m gs e a =
    let b = beginning o fs t us in
    let f = subst (λ l. Tell l (sign.Mark m ∷ gs)) b.written a in
    subst (Begins t us) (sym b.has ∙ f.0.0 ∙ ap Some e) b.begins

pub entered : (o : Token) (fs : List Opened) (t : Token) (us : List Token) (m : Mark) (gs : List Sign) → as_told m ≡ m → Tell (writes (at mode.Input o fs) (t ∷ us)) (sign.Mark m ∷ gs) → Enters t (Some m)
entered o fs t us m gs e a =
    let b = entering o fs t us in
    let f = subst (λ l. Tell l (sign.Mark m ∷ gs)) b.written a in
    elim b.has [
      | inl n ↦ absurd (both_ways (is_number b.first.kind) f.0.1 n)
      | inr h ↦ subst (Enters t) (sym h ∙ f.0.0 ∙ ap Some e) b.enters
    ]

pub at_yield : {t : Token} {us : List Token} → Begins t us (Some mark.Yield) → Is t (codes "end")
at_yield (ends e) = e

pub at_open : {t : Token} {us : List Token} → Begins t us (Some mark.Open) → Is t (codes "(")
at_open (opening e) = e

pub at_out : {t : Token} {us : List Token} → Begins t us (Some mark.Out) → Is t (codes "return") × (Lack us (codes "(") ⊎ (bytes_eq (first_text us) (codes "(") ≡ true))
at_out (returns e l) = (e, inl l)
at_out (sends e l) = (e, inr l)

pub at_event : {t : Token} {us : List Token} → Begins t us (Some mark.EventWord) → Is t (codes "event")
at_event (records e) = e

pub at_if : {t : Token} {us : List Token} → Begins t us (Some mark.If) → Is t (codes "if")
at_if (tests e) = e

pub at_new : {t : Token} {us : List Token} → Begins t us (Some mark.New) → (is_name t.kind t.text ≡ true) × (bytes_eq (first_text us) (codes "<-") ≡ true)
at_new (draws e l) = (e, l)

pub at_let : {t : Token} {us : List Token} → Begins t us (Some mark.Let) → (is_name t.kind t.text ≡ true) × (bytes_eq (first_text us) (codes "<-") ≡ false)
at_let (binds e l) = (e, l)

pub in_open : {t : Token} → Enters t (Some mark.Open) → Is t (codes "(")
in_open (opening e) = e

pub in_bang : {t : Token} → Enters t (Some mark.Bang) → Is t (codes "foreach")
in_bang (repeats e) = e

pub in_in : {t : Token} → Enters t (Some mark.In) → is_name t.kind t.text ≡ true
in_in (defines e) = e
