-- Which token the source has where its translation has a sign.
use Rattle.std.proofs.Common.{◌≡◌, ℕ, Bool, true, false, if◌then◌else◌, ◌||◌, ◌⊎◌, inl, inr, List, [], ◌∷◌, ◌++◌, map, codes, refl, ap, sym, ◌∙◌, subst, Some, None}
use Rattle.std.specs.Str.{bytes_eq}
use Rattle.std.proofs.lemmas.Bool.{cases_Bool}
use Rattle.cv_lex.specs.Lexis.{Token}
use Rattle.cv_parse_notation.specs.declared.sign.Mark.{Mark}
use Rattle.cv_parse_notation.specs.declared.sign.Mark.TheVariants as mark
use Rattle.cv_parse_notation.specs.declared.sign.Sign.{Sign}
use Rattle.cv_parse_notation.specs.declared.sign.Sign.TheVariants as sign
use Rattle.cv_parse_tables.proofs.spelling.Table.{found}
use Rattle.cv_parse_tables.proofs.terminals.Naming.{text_test}
use Rattle.cv_parse_tables.specs.spelling.Spelling.{as_told, spelling}
use Rattle.cv_oracles.specs.declared.form.Form.{Form}
use Rattle.cv_oracles.specs.declared.form.Form.TheVariants.{Itself, Refused, Nothing, Begins, Equals}
use Rattle.cv_oracles.specs.declared.form.Mode.{Mode}
use Rattle.cv_oracles.specs.declared.form.Mode.TheVariants as mode
use Rattle.cv_oracles.specs.declared.region.Region.TheVariants.{Process}
use Rattle.cv_oracles.specs.Pieces.{pieces}
use Rattle.cv_oracles.specs.Regions.{is_barred}
use Rattle.cv_oracles.specs.Steps.{rest_step}
use Rattle.cv_oracle_laws.specs.Tokens.{symbol, Is, IsKept}
use Rattle.cv_oracle_laws.proofs.Runs.{Opened, State, at, move_at, move_by, piece_of, one, writes}
use Rattle.cv_oracle_laws.proofs.Moves.{moves}
use Rattle.cv_oracle_laws.proofs.Telling.{Fit, Tell, told, same_text}

-- one token, which is kept or not

pub record Kept (next : State) (s : Sign) (us : List Token) (gs : List Sign) : Type 0 where
  pub first : Token
  pub more : List Token
  pub split : us ≡ first ∷ more
  pub kept : IsKept first
  pub fit : Fit first s
  pub tell : Tell (writes next more) gs

abbrev NoNever : Sign → Type 0
NoNever s = Fit (symbol (codes ":=")) s → ⊥

-- names and marks are none
pub word_no_never : (x : ℕ) (w : _) → NoNever (sign.Word x w)
word_no_never x w f = let e : None ≡ Some mark.Becomes = sym f.0 ∙ found mark.Becomes in cc

pub mark_no_never : (m : Mark) → (as_told m ≡ mark.Becomes → ⊥) → NoNever (sign.Mark m)
mark_no_never m n f = let e : Some (as_told m) ≡ Some mark.Becomes = sym f.0 ∙ found mark.Becomes in n (cc)

module _ (o : Token) (fs : List Opened) where
  -- a mode in which one token is kept
  keeping : (m n : Mode) → ((t : Token) (us : List Token) (b : Bool) → is_barred Process t.text ≡ b → move_at (at m o fs) t us ≡ move_by (at m o fs) t t.kind t.text (if b then Refused else Itself, n)) →
      ((t : Token) (us : List Token) (f : Form) → move_by (at m o fs) t t.kind t.text (f, n) ≡ moves (map (piece_of o t) (pieces f)) [] (at n o fs)) →
      (us : List Token) (s : Sign) (gs : List Sign) → NoNever s → Tell (writes (at m o fs) us) (s ∷ gs) → Kept (at n o fs) s us gs
  unfolding writes
  keeping m n steps stays [] s gs ne a = absurd a
  keeping m n steps stays (t ∷ us) s gs ne a = elim (cases_Bool (is_barred Process t.text)) [
    | inl b ↦
        let w = one (at m o fs) t us (moves (symbol (codes ":=") ∷ []) [] (at n o fs)) (steps t us true b ∙ stays t us Refused) in
        absurd (ne (told (writes (at m o fs) (t ∷ us)) _ _ _ w.written refl a).0)
    | inr b ↦
        let w = one (at m o fs) t us (moves (t ∷ []) [] (at n o fs)) (steps t us false b ∙ stays t us Itself) in
        let l = told (writes (at m o fs) (t ∷ us)) _ _ _ w.written refl a in
        record { first = t; more = us; split = refl; kept = b; fit = l.0; tell = l.1 }
  ]

  pub index_kept : (us : List Token) (s : Sign) (gs : List Sign) → NoNever s → Tell (writes (at mode.Index o fs) us) (s ∷ gs) → Kept (at mode.Below o fs) s us gs
  index_kept = keeping mode.Index mode.Below (λ t us b e. ap (λ x. move_by (at mode.Index o fs) t t.kind t.text (if x then Refused else Itself, mode.Below)) e) (λ t us f. refl)

  pub below_kept : (us : List Token) (s : Sign) (gs : List Sign) → NoNever s → Tell (writes (at mode.Below o fs) us) (s ∷ gs) → Kept (at mode.Bound o fs) s us gs
  below_kept = keeping mode.Below mode.Bound (λ t us b e. ap (λ x. move_by (at mode.Below o fs) t t.kind t.text (if x then Refused else Itself, mode.Bound)) e) (λ t us f. refl)

  pub bound_kept : (us : List Token) (s : Sign) (gs : List Sign) → NoNever s → Tell (writes (at mode.Bound o fs) us) (s ∷ gs) → Kept (at mode.Do o fs) s us gs
  bound_kept = keeping mode.Bound mode.Do (λ t us b e. ap (λ x. move_by (at mode.Bound o fs) t t.kind t.text (if x then Refused else Itself, mode.Do)) e) (λ t us f. refl)

  pub colon_kept : (us : List Token) (s : Sign) (gs : List Sign) → NoNever s → Tell (writes (at mode.Colon o fs) us) (s ∷ gs) → Kept (at mode.OfType o fs) s us gs
  colon_kept = keeping mode.Colon mode.OfType (λ t us b e. ap (λ x. move_by (at mode.Colon o fs) t t.kind t.text (if x then Refused else Itself, mode.OfType)) e) (λ t us f. refl)

  pub type_kept : (us : List Token) (s : Sign) (gs : List Sign) → NoNever s → Tell (writes (at mode.OfType o fs) us) (s ∷ gs) → Kept (at mode.Gets o fs) s us gs
  type_kept = keeping mode.OfType mode.Gets (λ t us b e. ap (λ x. move_by (at mode.OfType o fs) t t.kind t.text (if x then Refused else Itself, mode.Gets)) e) (λ t us f. refl)

  -- one token alone, for which some are written or none

  pub record Alone (text : List ℕ) (ws : Token → List Token) (next : State) (us : List Token) (gs : List Sign) : Type 0 where
    pub first : Token
    pub more : List Token
    pub split : us ≡ first ∷ more
    pub is : Is first text
    pub tell : Tell (ws first ++ writes next more) gs

  alone : (m n : Mode) (text : List ℕ) (f : Form) → ((t : Token) (us : List Token) (b : Bool) → bytes_eq t.text text ≡ b → move_at (at m o fs) t us ≡ move_by (at m o fs) t t.kind t.text (if b then (f, n) else (Refused, mode.Behind))) →
      ((t : Token) (us : List Token) (g : Form) (k : Mode) → move_by (at m o fs) t t.kind t.text (g, k) ≡ moves (map (piece_of o t) (pieces g)) [] (at k o fs)) →
      (ws : Token → List Token) → ((t : Token) → map (piece_of o t) (pieces f) ≡ ws t) →
      (us : List Token) (s : Sign) (gs : List Sign) → NoNever s → Tell (writes (at m o fs) us) (s ∷ gs) → Alone text ws (at n o fs) us (s ∷ gs)
  unfolding writes
  alone m n text f steps stays ws are [] s gs ne a = absurd a
  alone m n text f steps stays ws are (t ∷ us) s gs ne a = elim (text_test t.text text) [
    | inl e ↦
        let w = one (at m o fs) t us (moves (map (piece_of o t) (pieces f)) [] (at n o fs)) (steps t us true e.0 ∙ stays t us f n) in
        record { first = t; more = us; split = refl; is = e.1; tell = subst (λ l. Tell l (s ∷ gs)) (w.written ∙ ap (λ l. l ++ writes (at n o fs) us) (are t)) a }
    | inr e ↦
        let w = one (at m o fs) t us (moves (symbol (codes ":=") ∷ []) [] (at mode.Behind o fs)) (steps t us false e ∙ stays t us Refused mode.Behind) in
        absurd (ne (told (writes (at m o fs) (t ∷ us)) _ _ _ w.written refl a).0)
  ]

  pub does_alone : (us : List Token) (s : Sign) (gs : List Sign) → NoNever s → Tell (writes (at mode.Do o fs) us) (s ∷ gs) → Alone (codes "do") (λ t. []) (at mode.Input o fs) us (s ∷ gs)
  does_alone = alone mode.Do mode.Input (codes "do") Nothing (λ t us b e. ap (λ x. move_by (at mode.Do o fs) t t.kind t.text (if x then (Nothing, mode.Input) else (Refused, mode.Behind))) e) (λ t us g k. refl) (λ t. []) (λ t. refl)

  pub becomes_alone : (us : List Token) (s : Sign) (gs : List Sign) → NoNever s → Tell (writes (at mode.Defines o fs) us) (s ∷ gs) → Alone (codes ":=") (λ t. symbol (codes ")") ∷ symbol (codes ";") ∷ []) (at mode.Output o fs) us (s ∷ gs)
  becomes_alone = alone mode.Defines mode.Output (codes ":=") Begins (λ t us b e. ap (λ x. move_by (at mode.Defines o fs) t t.kind t.text (if x then (Begins, mode.Output) else (Refused, mode.Behind))) e) (λ t us g k. refl) (λ t. symbol (codes ")") ∷ symbol (codes ";") ∷ []) (λ t. refl)

  pub random_alone : (us : List Token) (s : Sign) (gs : List Sign) → NoNever s → Tell (writes (at mode.Random o fs) us) (s ∷ gs) → Alone (codes "R") (λ t. []) (at mode.Line o fs) us (s ∷ gs)
  random_alone = alone mode.Random mode.Line (codes "R") Nothing (λ t us b e. ap (λ x. move_by (at mode.Random o fs) t t.kind t.text (if x then (Nothing, mode.Line) else (Refused, mode.Behind))) e) (λ t us g k. refl) (λ t. []) (λ t. refl)

  pub gets_alone : (us : List Token) (s : Sign) (gs : List Sign) → NoNever s → Tell (writes (at mode.Gets o fs) us) (s ∷ gs) → Alone (codes "<-") (λ t. symbol (codes "=") ∷ []) (at mode.Term o fs) us (s ∷ gs)
  gets_alone = alone mode.Gets mode.Term (codes "<-") Equals (λ t us b e. ap (λ x. move_by (at mode.Gets o fs) t t.kind t.text (if x then (Equals, mode.Term) else (Refused, mode.Behind))) e) (λ t us g k. refl) (λ t. symbol (codes "=") ∷ []) (λ t. refl)

  pub head_alone : (us : List Token) (s : Sign) (gs : List Sign) → NoNever s → Tell (writes (at mode.Head o fs) us) (s ∷ gs) → Alone (codes "(") (λ t. t ∷ []) (at mode.Variables o fs) us (s ∷ gs)
  head_alone = alone mode.Head mode.Variables (codes "(") Itself (λ t us b e. ap (λ x. move_by (at mode.Head o fs) t t.kind t.text (if x then (Itself, mode.Variables) else (Refused, mode.Behind))) e) (λ t us g k. refl) (λ t. t ∷ []) (λ t. refl)

  -- behind a process

  rest_form : (t : Token) → ((rest_step t.text).0 ≡ Itself) ⊎ ((rest_step t.text).0 ≡ Refused)
  rest_form t = by_tests (bytes_eq t.text (codes ";") || bytes_eq t.text (codes "|")) (bytes_eq t.text (codes "else")) (bytes_eq t.text (codes "orfind")) (is_barred Process t.text) where
    by_tests : (a b c d : Bool) → let f : Form × Mode = (if a then (Itself, mode.Input) else (if b then (Itself, mode.Output) else (if c then (Itself, mode.Test) else (if d then Refused else Itself, mode.Behind)))) in (f.0 ≡ Itself) ⊎ (f.0 ≡ Refused)
    by_tests true b c d = inl refl
    by_tests false true c d = inl refl
    by_tests false false true d = inl refl
    by_tests false false false true = inr refl
    by_tests false false false false = inl refl

  abbrev next_of : Token → List Token → State
  next_of t us = (move_at (at mode.Behind o fs) t us).after

  -- a token there is written as it is, or refused
  pub behind_first : (t : Token) (us : List Token) → (writes (at mode.Behind o fs) (t ∷ us) ≡ t ∷ writes (next_of t us) us) ⊎ (writes (at mode.Behind o fs) (t ∷ us) ≡ symbol (codes ":=") ∷ writes (next_of t us) us)
  unfolding writes
  behind_first t us = elim (rest_form t) [
    | inl e ↦ inl (ap (λ f. map (piece_of o t) (pieces f) ++ writes (next_of t us) us) e)
    | inr e ↦ inr (ap (λ f. map (piece_of o t) (pieces f) ++ writes (next_of t us) us) e)
  ]

  -- a mark that the source has there
  pub behind_mark : (m : Mark) → as_told m ≡ m → (m ≡ mark.Becomes → ⊥) → (t : Token) (us : List Token) (gs : List Sign) → Tell (writes (at mode.Behind o fs) (t ∷ us)) (sign.Mark m ∷ gs) → Is t (spelling m)
  behind_mark m e ne t us gs a = elim (behind_first t us) [
    | inl w ↦ same_text t m e (told (writes (at mode.Behind o fs) (t ∷ us)) _ _ _ w refl a).0
    | inr w ↦ let l = told (writes (at mode.Behind o fs) (t ∷ us)) _ _ _ w refl a in absurd (mark_no_never m (λ f. ne (sym e ∙ f)) l.0)
  ]
