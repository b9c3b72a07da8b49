-- What is returned, by the signs of what is sent.
use Rattle.std.proofs.Common.{◌≡◌, ℕ, zero, suc, ◌-◌, true, false, if◌then◌else◌, ◌||◌, inl, inr, List, [], ◌∷◌, ◌++◌, length, codes, refl, ap, sym, ◌∙◌, subst, arith, Some, None}
use Rattle.std.specs.Prelude.{nat_lt}
use Rattle.std.specs.Str.{bytes_eq}
use Rattle.std.proofs.lemmas.Bool.{both_ways, cases_Bool, or_from}
use Rattle.cv_lex.specs.declared.TokenKind.TheVariants as kind
use Rattle.cv_lex.specs.Lexis.{Token, IsToken}
use Rattle.cv_parse_notation.specs.declared.sign.Mark.{Mark}
use Rattle.cv_parse_notation.specs.declared.sign.Mark.TheVariants as mark
use Rattle.cv_parse_notation.specs.declared.sign.Sign.{Sign}
use Rattle.cv_parse_notation.specs.declared.sign.Sign.TheVariants as sign
use Rattle.cv_parse_tables.proofs.spelling.Table.{find_is_none, found}
use Rattle.cv_parse_tables.proofs.terminals.Naming.{text_test}
use Rattle.cv_parse_tables.specs.spelling.Spelling.{as_told, mark_of_text, spelling}
use Rattle.cv_oracles.specs.declared.form.Form.TheVariants.{Itself, Refused, Ends}
use Rattle.cv_oracles.specs.declared.form.Mode.TheVariants as mode
use Rattle.cv_oracles.specs.declared.region.Region.TheVariants.{Process}
use Rattle.cv_oracles.specs.Regions.{is_barred}
use Rattle.cv_oracles.specs.Steps.{is_number, one_more}
use Rattle.cv_oracle_laws.specs.Tokens.{symbol, Is, IsKept, AreMatched, none, another, opens, closes}
use Rattle.cv_oracle_laws.proofs.Runs.{Opened, at, move_by, one, writes}
use Rattle.cv_oracle_laws.proofs.Moves.{at_text, moves}
use Rattle.cv_oracle_laws.proofs.Forward.{payload, payload_closes, payload_keeps, payload_opens}
use Rattle.cv_oracle_laws.proofs.Terms.{Closes, none as closed, another as next_one, opens as opened, closes as closing, plain_mark}
use Rattle.cv_oracle_laws.proofs.Telling.{Fit, Tell, no_fit, same_text}
use Rattle.cv_oracle_laws.proofs.Sources.{mark_no_never}
use Rattle.cv_oracle_laws.proofs.Views.{Begins, Entering, beginning, entering, finds}

-- a `find`
pub found_find : (o : Token) (fs : List Opened) (t : Token) (us : List Token) (k : ℕ) (gs : List Sign) → Tell (writes (at mode.Output o fs) (t ∷ us)) (sign.Find k ∷ gs) → Is t (codes "find")
found_find o fs t us k gs a =
    let b = beginning o fs t us in
    let f = subst (λ l. Tell l (sign.Find k ∷ gs)) b.written a in
    told (subst (Begins t us) (sym b.has ∙ ap mark_of_text f.0 ∙ find_is_none) b.begins)
  where
    told : Begins t us None → Is t (codes "find")
    told (finds e) = e

-- a number
pub zero_there : (o : Token) (fs : List Opened) (t : Token) (us : List Token) (v : ℕ) (gs : List Sign) → Tell (writes (at mode.Input o fs) (t ∷ us)) (sign.Number v ∷ gs) → (t.kind ≡ kind.Number v) × IsToken t.kind t.text
zero_there o fs t us v gs a =
    let b = entering o fs t us in
    by_kind b (subst (λ l. Tell l (sign.Number v ∷ gs)) b.written a).0
  where
    by_kind : (b : Entering o fs t us) → Fit b.first (sign.Number v) → (t.kind ≡ kind.Number v) × IsToken t.kind t.text
    by_kind b f = elim b.own [
      | inl e ↦ subst (λ x. (x.kind ≡ kind.Number v) × IsToken x.kind x.text) e f
      | inr e ↦ absurd (both_ways (is_number b.first.kind) e (ap is_number f.0))
    ]

module _ (o : Token) (fs : List Opened) where
  -- the four kinds of tokens there

  pub data Kind (c : ℕ) (t : Token) (us : List Token) : Type 0 where
    an_opening : Is t (codes "(") → Kind c t us
    a_closing : Is t (codes ")") → Kind c t us
    a_barred : (ws : List Token) → writes (payload o fs c) (t ∷ us) ≡ symbol (codes ":=") ∷ ws → Kind c t us
    a_kept : IsKept t → (bytes_eq t.text (codes "(") || bytes_eq t.text (codes ")")) ≡ false → writes (payload o fs c) (t ∷ us) ≡ t ∷ writes (payload o fs c) us → Kind c t us

  kind_of : (c : ℕ) (t : Token) (us : List Token) → Kind c t us
  kind_of c t us =
      elim (text_test t.text (codes "(")) [
        | inl e ↦ an_opening e.1
        | inr a ↦ elim (text_test t.text (codes ")")) [
          | inl e ↦ a_closing e.1
          | inr b ↦ elim (cases_Bool (is_barred Process t.text)) [
            | inl k ↦ a_barred _ (one (payload o fs c) t us (moves (symbol (codes ":=") ∷ []) [] (payload o fs c)) (
                λ i. move_by (payload o fs c) t t.kind t.text (if a i then (Itself, mode.Payload (one_more c)) else (if b i then (if nat_lt 1 c then (Itself, mode.Payload (c - 1)) else (Ends, mode.Behind)) else (if k i then Refused else Itself, mode.Payload c)))
                )).written
            | inr k ↦ let n = or_from (bytes_eq t.text (codes "(")) (bytes_eq t.text (codes ")")) a b in a_kept k n (payload_keeps o fs c t us k n).written
          ]
        ]
      ]

  pub record Returned (k : ℕ) (count : ℕ) (us : List Token) (gs : List Sign) : Type 0 where
    pub run : List Token
    pub last : Token
    pub more : List Token
    pub split : us ≡ run ++ last ∷ more
    pub matched : AreMatched k run
    pub is : Is last (codes ")")
    pub long : length run ≡ count
    pub tell : Tell (writes (at mode.Behind o fs) more) gs

  -- the parenthesis that closes all
  ends_there : (t : Token) (us : List Token) → Is t (codes ")") → writes (payload o fs 1) (t ∷ us) ≡ symbol (codes ")") ∷ symbol (codes ")") ∷ writes (at mode.Behind o fs) us
  ends_there t us e = (at_text (payload o fs 1) t us (codes ")") (moves (symbol (codes ")") ∷ symbol (codes ")") ∷ []) [] (at mode.Behind o fs)) e refl).written

  -- one that closes is written with its own mark
  closes_first : (k : ℕ) (t : Token) (us : List Token) → Is t (codes ")") → (w : Token) × (ws : List Token) × (writes (payload o fs (suc k)) (t ∷ us) ≡ w ∷ ws) × (mark_of_text w.text ≡ Some mark.Close)
  closes_first zero t us e = (symbol (codes ")"), _, ends_there t us e, found mark.Close)
  closes_first (suc k) t us e = (t, _, (payload_closes o fs k t us e).written, ap mark_of_text e ∙ found mark.Close)

  -- an opening one is written as it is, however many are open
  opening_first : (k : ℕ) (t : Token) (us : List Token) → Is t (codes "(") → (s : Sign) (gs : List Sign) → Tell (writes (payload o fs (suc k)) (t ∷ us)) (s ∷ gs) → Fit t s
  opening_first k t us e s gs a = (subst (λ l. Tell l (s ∷ gs)) (at_text (payload o fs (suc k)) t us (codes "(") (moves (t ∷ []) [] (payload o fs (one_more (suc k)))) e refl).written a).0

  not_text : (t : Token) (m : Mark) (gs : List Sign) (ws : List Token) → as_told m ≡ m → Tell (t ∷ ws) (sign.Mark m ∷ gs) → (text : List ℕ) → Is t text → bytes_eq (spelling m) text ≡ false → bytes_eq text text ≡ true → ⊥
  not_text t m gs ws e a text i d s = both_ways (bytes_eq t.text text) (ap (λ x. bytes_eq x text) (same_text t m e a.0) ∙ d) (ap (λ x. bytes_eq x text) i ∙ s)

  abbrev two : List Sign → List Sign
  two gs = sign.Mark mark.Close ∷ sign.Mark mark.Close ∷ gs

  pub returned : (k : ℕ) (ms : List Sign) (us : List Token) (gs : List Sign) → Closes k ms → Tell (writes (payload o fs (suc k)) us) (ms ++ sign.Mark mark.Close ∷ sign.Mark mark.Close ∷ gs) → Returned k (length ms) us gs
  unfolding writes
  returned k [] [] gs c a = absurd a
  returned k (s ∷ ms) [] gs c a = absurd a
  returned k [] (t ∷ us) gs closed a = elim (kind_of 1 t us) [
    | an_opening e ↦ absurd (not_text t mark.Close _ _ refl (subst (λ l. Tell l (two gs)) (payload_opens o fs 1 t us (omega arith) e).written a) (codes "(") e refl refl)
    | a_closing e ↦ record { run = []; last = t; more = us; split = refl; matched = none; is = e; long = refl; tell = (subst (λ l. Tell l (two gs)) (ends_there t us e) a).1.1 }
    | a_barred ws e ↦ absurd (mark_no_never mark.Close (λ z. cc) (subst (λ l. Tell l (two gs)) e a).0)
    | a_kept b n e ↦ absurd (both_ways _ n (ap (λ x. bytes_eq x (codes "(") || bytes_eq x (codes ")")) (same_text t mark.Close refl (subst (λ l. Tell l (two gs)) e a).0)))
  ]
  returned k (s ∷ ms) (t ∷ us) gs (next_one h c) a = elim (kind_of (suc k) t us) [
    | an_opening e ↦ absurd (no_fit t s mark.Open plain_mark refl (opening_first k t us e s _ a) (ap mark_of_text e ∙ found mark.Open) h refl)
    | a_closing e ↦ let w = closes_first k t us e in absurd (no_fit w.0 s mark.Close plain_mark refl (subst (λ l. Tell l (s ∷ (ms ++ two gs))) w.2 a).0 w.3 h refl)
    | a_barred ws e ↦ absurd (no_fit (symbol (codes ":=")) s mark.Becomes plain_mark refl (subst (λ l. Tell l (s ∷ (ms ++ two gs))) e a).0 (found mark.Becomes) h refl)
    | a_kept b n e ↦
        let l = returned k ms us gs c (subst (λ l. Tell l (s ∷ (ms ++ two gs))) e a).1 in
        record { run = t ∷ l.run; last = l.last; more = l.more; split = ap (λ z. t ∷ z) l.split; matched = another b n l.matched; is = l.is; long = ap suc l.long; tell = l.tell }
  ]
  returned k (s ∷ ms) (t ∷ us) gs (opened f c) a = elim (kind_of (suc k) t us) [
    | an_opening e ↦
        let l = returned (suc k) ms us gs c (subst (λ l. Tell l (s ∷ (ms ++ two gs))) (payload_opens o fs (suc k) t us (omega arith) e).written a).1 in
        record { run = t ∷ l.run; last = l.last; more = l.more; split = ap (λ z. t ∷ z) l.split; matched = opens f e l.matched; is = l.is; long = ap suc l.long; tell = l.tell }
    | a_closing e ↦ let w = closes_first k t us e in absurd (let z : Some mark.Close ≡ Some mark.Open = sym w.3 ∙ (subst (λ l. Tell l (s ∷ (ms ++ two gs))) w.2 a).0.0 in cc)
    | a_barred ws e ↦ absurd (mark_no_never mark.Open (λ z. cc) (subst (λ l. Tell l (s ∷ (ms ++ two gs))) e a).0)
    | a_kept b n e ↦ absurd (both_ways _ n (ap (λ x. bytes_eq x (codes "(") || bytes_eq x (codes ")")) (same_text t mark.Open refl (subst (λ l. Tell l (s ∷ (ms ++ two gs))) e a).0)))
  ]
  returned (suc k) (s ∷ ms) (t ∷ us) gs (closing c) a = elim (kind_of (suc (suc k)) t us) [
    | an_opening e ↦ absurd (let z : Some mark.Open ≡ Some mark.Close = sym (ap mark_of_text e ∙ found mark.Open) ∙ (opening_first (suc k) t us e s _ a).0 in cc)
    | a_closing e ↦
        let l = returned k ms us gs c (subst (λ l. Tell l (s ∷ (ms ++ two gs))) (payload_closes o fs k t us e).written a).1 in
        record { run = t ∷ l.run; last = l.last; more = l.more; split = ap (λ z. t ∷ z) l.split; matched = closes e l.matched; is = l.is; long = ap suc l.long; tell = l.tell }
    | a_barred ws e ↦ absurd (mark_no_never mark.Close (λ z. cc) (subst (λ l. Tell l (s ∷ (ms ++ two gs))) e a).0)
    | a_kept b n e ↦ absurd (both_ways _ n (ap (λ x. bytes_eq x (codes "(") || bytes_eq x (codes ")")) (same_text t mark.Close refl (subst (λ l. Tell l (s ∷ (ms ++ two gs))) e a).0)))
  ]
