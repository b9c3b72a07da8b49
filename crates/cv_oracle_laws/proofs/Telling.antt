-- Tokens that are written, and the signs that say what they say: what the source had where these signs are read.
use Rattle.std.proofs.Common.{◌≡◌, ℕ, suc, Bool, true, false, if◌then◌else◌, inl, inr, List, [], ◌∷◌, ◌++◌, length, codes, refl, ap, sym, ◌∙◌, subst, Some, None}
use Rattle.std.specs.Str.{bytes_eq}
use Rattle.std.proofs.lemmas.Bool.{both_ways, cases_Bool}
use Rattle.cv_lex.specs.declared.TokenKind.TheVariants as kind
use Rattle.cv_lex.specs.Lexis.{Token, IsToken}
use Rattle.cv_parse_notation.specs.declared.sign.Mark.{Mark}
use Rattle.cv_parse_notation.specs.declared.sign.Mark.TheVariants as mark
use Rattle.cv_parse_notation.specs.declared.sign.Sign.{Sign}
use Rattle.cv_parse_notation.specs.declared.sign.Sign.TheVariants as sign
use Rattle.cv_parse_tables.proofs.spelling.Table.{found, only}
use Rattle.cv_parse_tables.proofs.terminals.Naming.{text_test}
use Rattle.cv_parse_tables.specs.spelling.Spelling.{as_told, mark_of_text, spelling}
use Rattle.cv_oracles.specs.declared.form.Form.TheVariants.{Itself, Refused, Into}
use Rattle.cv_oracles.specs.declared.form.Mode.TheVariants as mode
use Rattle.cv_oracles.specs.declared.region.Region.TheVariants.{Process}
use Rattle.cv_oracles.specs.Regions.{is_barred}
use Rattle.cv_oracles.specs.Steps.{is_number}
use Rattle.cv_oracle_laws.specs.Tokens.{word, symbol, Is, IsKept, AreUpTo}
use Rattle.cv_oracle_laws.proofs.Runs.{Opened, State, at, move_by, one, writes}
use Rattle.cv_oracle_laws.proofs.Moves.{at_text, moves}
use Rattle.cv_oracle_laws.proofs.Spelled.{AllOf, is_of}
use Rattle.cv_oracle_laws.proofs.Terms.{line_mark, variable_mark}

-- a sign says what its token says
abbrev pub Fit : Token → Sign → Type 0
Fit t (sign.Word n w) = (mark_of_text t.text ≡ None) × (bytes_eq t.text (codes "find") ≡ false)
Fit t (sign.Number v) = (t.kind ≡ kind.Number v) × IsToken t.kind t.text
Fit t (sign.Find n) = t.text ≡ codes "find"
Fit t (sign.Unnamed n) = t.text ≡ codes "collision"
Fit t (sign.Mark m) = (mark_of_text t.text ≡ Some (as_told m)) × (is_number t.kind ≡ false)

abbrev pub Tell : List Token → List Sign → Type 0
Tell [] [] = Unit {0}
Tell (t ∷ ts) (s ∷ ss) = Fit t s × Tell ts ss
Tell [] (s ∷ ss) = ⊥
Tell (t ∷ ts) [] = ⊥

pub told : (ws vs : List Token) (gs hs : List Sign) → ws ≡ vs → gs ≡ hs → Tell ws gs → Tell vs hs
told ws vs gs hs e f t = subst (λ l. Tell l hs) e (subst (Tell ws) f t)

pub tells : {ws vs : List Token} {gs hs : List Sign} → ws ≡ vs → gs ≡ hs → Tell ws gs → Tell vs hs
tells {ws} {vs} {gs} {hs} e f a = told ws vs gs hs e f a

-- a text that is this mark

pub same_text : (t : Token) (m : Mark) → as_told m ≡ m → Fit t (sign.Mark m) → t.text ≡ spelling m
same_text t m e f = sym (only t.text m (f.0 ∙ ap Some e))

-- what is written for a token is at its place none of these
pub no_fit : (w : Token) (s : Sign) (m : Mark) (p : Mark → Bool) → p mark.OpenAtoms ≡ false → Fit w s → mark_of_text w.text ≡ Some m → is_of false p s ≡ true → p m ≡ false → ⊥
no_fit w (sign.Word n x) m p a f e h g = let z : None ≡ Some m = sym f.0 ∙ e in cc
no_fit w (sign.Number v) m p a f e h g = cc
no_fit w (sign.Find n) m p a f e h g = cc
no_fit w (sign.Unnamed n) m p a f e h g = cc
no_fit w (sign.Mark k) m p a f e h g =
    let z : Some (as_told k) ≡ Some m = sym f.0 ∙ e in
    let y : as_told k ≡ m = cc in
    both_ways (p k) (ap p (sym (kept k h)) ∙ ap p y ∙ g) h
  where
    kept : (k : Mark) → p k ≡ true → as_told k ≡ k
    kept mark.OpenAtoms h = absurd (both_ways (p mark.OpenAtoms) a h)
    kept k h = refl

-- Tokens up to one that ends them.

pub record Passed (end : List ℕ) (next : State) (count : ℕ) (us : List Token) (gs : List Sign) : Type 0 where
  pub run : List Token
  pub last : Token
  pub more : List Token
  pub split : us ≡ run ++ last ∷ more
  pub up : AreUpTo end run
  pub long : length run ≡ count
  pub is : Is last end
  pub tell : Tell (writes next more) gs

-- how a mode passes tokens up to its end, which is written as this mark
pub record Runs (s next : State) (end : List ℕ) (m : Mark) (p : Mark → Bool) : Type 0 where
  pub at_end : (t : Token) (us : List Token) → Is t end → (w : Token) × (writes s (t ∷ us) ≡ w ∷ writes next us) × (mark_of_text w.text ≡ Some m)
  pub at_bar : (t : Token) (us : List Token) → bytes_eq t.text end ≡ false → is_barred Process t.text ≡ true → (ws : List Token) × (writes s (t ∷ us) ≡ symbol (codes ":=") ∷ ws)
  pub copies : (t : Token) (us : List Token) → bytes_eq t.text end ≡ false → IsKept t → writes s (t ∷ us) ≡ t ∷ writes s us
  pub no_atoms : p mark.OpenAtoms ≡ false
  pub no_never : p mark.Becomes ≡ false
  pub no_end : p m ≡ false
  pub tells : as_told m ≡ m
  pub isnt_never : Some mark.Becomes ≡ Some m → ⊥
  pub other : (t : Token) → t.text ≡ spelling m → bytes_eq t.text end ≡ false → IsKept t → ⊥

module _ (s next : State) (end : List ℕ) (m : Mark) (p : Mark → Bool) (r : Runs s next end m p) where
  stopped : (us : List Token) (gs : List Sign) → Tell (writes s us) (sign.Mark m ∷ gs) → Passed end next 0 us gs
  unfolding writes
  stopped [] gs a = absurd a
  stopped (t ∷ us) gs a = elim (text_test t.text end) [
    | inl e ↦ let w = r.at_end t us e.1 in record { run = []; last = t; more = us; split = refl; up = tt; long = refl; is = e.1; tell = (told (writes s (t ∷ us)) _ _ _ w.1 refl a).1 }
    | inr e ↦ elim (cases_Bool (is_barred Process t.text)) [
      | inl b ↦ let w = r.at_bar t us e b in absurd (r.isnt_never (sym (found mark.Becomes) ∙ (told (writes s (t ∷ us)) _ _ _ w.1 refl a).0.0 ∙ ap Some r.tells))
      | inr b ↦ absurd (r.other t (same_text t m r.tells (told (writes s (t ∷ us)) _ _ _ (r.copies t us e b) refl a).0) e b)
    ]
  ]

  pub passed : (ms : List Sign) (us : List Token) (gs : List Sign) → AllOf false p ms → Tell (writes s us) (ms ++ sign.Mark m ∷ gs) → Passed end next (length ms) us gs
  unfolding writes
  passed [] us gs h a = stopped us gs a
  passed (x ∷ ms) [] gs h a = absurd a
  passed (x ∷ ms) (t ∷ us) gs (h, hs) a = elim (text_test t.text end) [
    | inl e ↦ let w = r.at_end t us e.1 in absurd (no_fit w.0 x m p r.no_atoms (told (writes s (t ∷ us)) _ _ _ w.1 refl a).0 w.2 h r.no_end)
    | inr e ↦ elim (cases_Bool (is_barred Process t.text)) [
      | inl b ↦ let w = r.at_bar t us e b in absurd (no_fit (symbol (codes ":=")) x mark.Becomes p r.no_atoms (told (writes s (t ∷ us)) _ _ _ w.1 refl a).0 (found mark.Becomes) h r.no_never)
      | inr b ↦
          let l = passed ms us gs hs (told (writes s (t ∷ us)) _ _ _ (r.copies t us e b) refl a).1 in
          record { run = t ∷ l.run; last = l.last; more = l.more; split = ap (λ z. t ∷ z) l.split; up = ((b, e), l.up); long = ap suc l.long; is = l.is; tell = l.tell }
    ]
  ]

module _ (o : Token) (fs : List Opened) where
  pub tests_run : Runs (at mode.Test o fs) (at mode.Output o fs) (codes "then") mark.Then line_mark
  tests_run = record {
    at_end = λ t us e. (t, (at_text (at mode.Test o fs) t us (codes "then") (moves (t ∷ []) [] (at mode.Output o fs)) e refl).written, ap mark_of_text e ∙ found mark.Then);
    at_bar = λ t us e b. (_, (one (at mode.Test o fs) t us (moves (symbol (codes ":=") ∷ []) [] (at mode.Test o fs)) (λ i. move_by (at mode.Test o fs) t t.kind t.text (if e i then (Itself, mode.Output) else (if b i then Refused else Itself, mode.Test)))).written);
    copies = λ t us e b. (one (at mode.Test o fs) t us (moves (t ∷ []) [] (at mode.Test o fs)) (λ i. move_by (at mode.Test o fs) t t.kind t.text (if e i then (Itself, mode.Output) else (if b i then Refused else Itself, mode.Test)))).written;
    no_atoms = refl;
    no_never = refl;
    no_end = refl;
    tells = refl;
    isnt_never = λ z. cc;
    other = λ t f e b. both_ways _ e (ap (λ x. bytes_eq x (codes "then")) f);
  }

  pub lines_run : Runs (at mode.Line o fs) (at mode.Output o fs) (codes ";") mark.Semicolon line_mark
  lines_run = record {
    at_end = λ t us e. (t, (at_text (at mode.Line o fs) t us (codes ";") (moves (t ∷ []) [] (at mode.Output o fs)) e refl).written, ap mark_of_text e ∙ found mark.Semicolon);
    at_bar = λ t us e b. (_, (one (at mode.Line o fs) t us (moves (symbol (codes ":=") ∷ []) [] (at mode.Line o fs)) (λ i. move_by (at mode.Line o fs) t t.kind t.text (if e i then (Itself, mode.Output) else (if b i then Refused else Itself, mode.Line)))).written);
    copies = λ t us e b. (one (at mode.Line o fs) t us (moves (t ∷ []) [] (at mode.Line o fs)) (λ i. move_by (at mode.Line o fs) t t.kind t.text (if e i then (Itself, mode.Output) else (if b i then Refused else Itself, mode.Line)))).written;
    no_atoms = refl;
    no_never = refl;
    no_end = refl;
    tells = refl;
    isnt_never = λ z. cc;
    other = λ t f e b. both_ways _ e (ap (λ x. bytes_eq x (codes ";")) f);
  }

  pub terms_run : Runs (at mode.Term o fs) (at mode.Output o fs) (codes ";") mark.In line_mark
  terms_run = record {
    at_end = λ t us e. (word (codes "in"), (at_text (at mode.Term o fs) t us (codes ";") (moves (word (codes "in") ∷ []) [] (at mode.Output o fs)) e refl).written, found mark.In);
    at_bar = λ t us e b. (_, (one (at mode.Term o fs) t us (moves (symbol (codes ":=") ∷ []) [] (at mode.Term o fs)) (λ i. move_by (at mode.Term o fs) t t.kind t.text (if e i then (Into, mode.Output) else (if b i then Refused else Itself, mode.Term)))).written);
    copies = λ t us e b. (one (at mode.Term o fs) t us (moves (t ∷ []) [] (at mode.Term o fs)) (λ i. move_by (at mode.Term o fs) t t.kind t.text (if e i then (Into, mode.Output) else (if b i then Refused else Itself, mode.Term)))).written;
    no_atoms = refl;
    no_never = refl;
    no_end = refl;
    tells = refl;
    isnt_never = λ z. cc;
    other = λ t f e b. both_ways _ b (ap (is_barred Process) f);
  }

  pub variables_run : Runs (at mode.Variables o fs) (at mode.Defines o fs) (codes ")") mark.Close variable_mark
  variables_run = record {
    at_end = λ t us e. (t, (at_text (at mode.Variables o fs) t us (codes ")") (moves (t ∷ []) [] (at mode.Defines o fs)) e refl).written, ap mark_of_text e ∙ found mark.Close);
    at_bar = λ t us e b. (_, (one (at mode.Variables o fs) t us (moves (symbol (codes ":=") ∷ []) [] (at mode.Variables o fs)) (λ i. move_by (at mode.Variables o fs) t t.kind t.text (if e i then (Itself, mode.Defines) else (if b i then Refused else Itself, mode.Variables)))).written);
    copies = λ t us e b. (one (at mode.Variables o fs) t us (moves (t ∷ []) [] (at mode.Variables o fs)) (λ i. move_by (at mode.Variables o fs) t t.kind t.text (if e i then (Itself, mode.Defines) else (if b i then Refused else Itself, mode.Variables)))).written;
    no_atoms = refl;
    no_never = refl;
    no_end = refl;
    tells = refl;
    isnt_never = λ z. cc;
    other = λ t f e b. both_ways _ e (ap (λ x. bytes_eq x (codes ")")) f);
  }
