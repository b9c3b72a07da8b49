-- The translation of a phrase, token by token, is what the phrase stands for.
use Rattle.std.proofs.Common.{◌≡◌, ℕ, suc, ◌+◌, ◌-◌, ◌<◌, Bool, true, false, if◌then◌else◌, ◌||◌, List, [], ◌∷◌, ◌++◌, codes, refl, ap, sym, ◌∙◌, subst, arith}
use Rattle.std.specs.Prelude.{nat_lt}
use Rattle.std.specs.List.{AllByRecursion}
use Rattle.std.specs.Str.{bytes_eq}
use Rattle.std.proofs.lemmas.Bool.{or_parts}
use Rattle.std.proofs.lemmas.Bool.Decides.{nat_tests}
use Rattle.cv_lex.specs.Lexis.{Token}
use Rattle.cv_parse_tables.specs.terminals.Signs.{first_text}
use Rattle.cv_oracles.specs.declared.form.Form.TheVariants.{Itself, Refused, Into, Ends}
use Rattle.cv_oracles.specs.declared.form.Mode.{Mode}
use Rattle.cv_oracles.specs.declared.form.Mode.TheVariants as mode
use Rattle.cv_oracles.specs.declared.frames.Opening.TheVariants.{Parenthesis, Find}
use Rattle.cv_oracles.specs.declared.frames.Sought.TheVariants as sought
use Rattle.cv_oracles.specs.Steps.{one_more}
use Rattle.cv_oracle_laws.specs.Tokens.{Is, Lack, IsKept, AreUpTo, AreMatched, none, another, opens, closes}
use Rattle.cv_oracle_laws.specs.Grammar.{Sort, Inputs, Input, Output, Continuation, Otherwise, Branches}
use Rattle.cv_oracle_laws.proofs.Runs.{Opened, State, at, open_as, is_one, from_one, behind_one, oracle_of, move_by, Goes, stay, one, both}
use Rattle.cv_oracle_laws.proofs.Moves.{at_text, moves}

-- what is left open behind a phrase: tests alone, and none that a word behind it could close by itself
abbrev pub AreTests : List Opened → Type 0
AreTests fs = AllByRecursion (λ f. is_one sought.Parenthesis f ≡ false) fs

abbrev pub HaveNoFind : List Opened → Type 0
HaveNoFind fs = AllByRecursion (λ f. is_one sought.Find f ≡ false) fs

pub record IsLeft (more : List Opened) (rest : List Token) : Type 0 where
  pub tests : AreTests more
  pub no_else : bytes_eq (first_text rest) (codes "else") ≡ true → more ≡ []
  pub no_orfind : bytes_eq (first_text rest) (codes "orfind") ≡ true → HaveNoFind more

pub nothing_left : (rest : List Token) → IsLeft [] rest
nothing_left rest = record { tests = tt; no_else = λ e. refl; no_orfind = λ e. tt }

-- from a state behind a phrase, where these were open before
pub record Leads (s : State) (fs : List Opened) (ts ws os rest : List Token) : Type 0 where
  pub oracle : Token
  pub more : List Opened
  pub left : IsLeft more rest
  pub goes : Goes s ts ws os (at mode.Behind oracle (more ++ fs)) rest

pub record LeadsAll (s : State) (fs : List Opened) (ts ws os rest : List Token) : Type 0 where
  pub oracle : Token
  pub more : List Opened
  pub tests : AreTests more
  pub goes : Goes s ts ws os (at mode.Behind oracle (more ++ fs)) rest

pub record LeadsOn (o : Token) (fs : List Opened) (ts ws os rest : List Token) : Type 0 where
  pub oracle : Token
  pub more : List Opened
  pub left : IsLeft more rest
  pub lack : Lack rest (codes "orfind")
  pub goes : Goes (at mode.Test o (open_as Find o ∷ fs)) ts ws os (at mode.Behind oracle (more ++ open_as Find o ∷ fs)) rest

-- the test that an `else` closes, behind a body
pub record IsOpen (o : Token) (more : List Opened) (f : Opened) (ts : List Token) : Type 0 where
  pub oracle : f.oracle ≡ o
  pub test : is_one sought.Test f ≡ true
  pub no_parenthesis : is_one sought.Parenthesis f ≡ false
  pub left : IsLeft more ts
  pub no_orfind : bytes_eq (first_text ts) (codes "orfind") ≡ true → is_one sought.Find f ≡ false

abbrev pub Holds : Sort → (ts ws os rest : List Token) → Type 0
Holds Inputs ts ws os rest = (o : Token) (fs : List Opened) → LeadsAll (at mode.Input o fs) fs ts ws os rest
Holds Input ts ws os rest = (o : Token) (fs : List Opened) → Leads (at mode.Input o fs) fs ts ws os rest
Holds (Output o) ts ws os rest = (fs : List Opened) → Leads (at mode.Output o fs) fs ts ws os rest
Holds (Continuation o) ts ws os rest = (p : Token) (fs : List Opened) → Leads (at mode.Behind p fs) fs ts ws os rest
Holds (Otherwise o) ts ws os rest = (p : Token) (more : List Opened) (f : Opened) (fs : List Opened) → IsOpen o more f ts → Leads (at mode.Behind p (more ++ f ∷ fs)) fs ts ws os rest
Holds (Branches o) ts ws os rest = (fs : List Opened) → LeadsOn o fs ts ws os rest

-- what is open

passed : (is : Opened → Bool) (more : List Opened) (f : Opened) (fs : List Opened) → AllByRecursion (λ g. is g ≡ false) more → is f ≡ true → from_one is (more ++ f ∷ fs) ≡ f ∷ fs
passed is [] f fs a e = ap (λ b. if b then f ∷ fs else from_one is fs) e
passed is (g ∷ more) f fs (x, a) e = ap (λ b. if b then g ∷ more ++ f ∷ fs else from_one is (more ++ f ∷ fs)) x ∙ passed is more f fs a e

pub all_with : (P : Opened → Type 0) (more : List Opened) (f : Opened) → AllByRecursion P more → P f → AllByRecursion P (more ++ f ∷ [])
all_with P [] f a p = (p, tt)
all_with P (g ∷ more) f (x, a) p = (x, all_with P more f a p)

pub all_both : (P : Opened → Type 0) (more others : List Opened) → AllByRecursion P more → AllByRecursion P others → AllByRecursion P (more ++ others)
all_both P [] others a b = b
all_both P (g ∷ more) others (x, a) b = (x, all_both P more others a b)

-- states and tokens that are the same

pub to : {s : State} {ts ws os : List Token} {o : Token} {fs gs : List Opened} {rest : List Token} → fs ≡ gs → Goes s ts ws os (at mode.Behind o fs) rest → Goes s ts ws os (at mode.Behind o gs) rest
to {s} {ts} {ws} {os} {o} {rest = rest} e g = subst (λ x. Goes s ts ws os (at mode.Behind o x) rest) e g

pub from : {m : Mode} {o : Token} {fs gs : List Opened} {ts ws os rest : List Token} {r : State} → gs ≡ fs → Goes (at m o fs) ts ws os r rest → Goes (at m o gs) ts ws os r rest
from {m} {o} {ts = ts} {ws} {os} {rest} {r} e g = subst (λ x. Goes (at m o x) ts ws os r rest) (sym e) g

-- tokens that stand as they are

module _ (o : Token) (fs : List Opened) where
  copied : (end : List ℕ) (m : Mode) → ((t : Token) (us : List Token) → IsKept t → bytes_eq t.text end ≡ false → Goes (at m o fs) (t ∷ us) (t ∷ []) [] (at m o fs) us) →
      (ts us : List Token) → AreUpTo end ts → Goes (at m o fs) (ts ++ us) ts [] (at m o fs) us
  copied end m copy [] us a = stay (at m o fs) us
  copied end m copy (t ∷ ts) us ((k, e), a) = both (copy t (ts ++ us) k e) (copied end m copy ts us a)

  pub variables : (ts us : List Token) → AreUpTo (codes ")") ts → Goes (at mode.Variables o fs) (ts ++ us) ts [] (at mode.Variables o fs) us
  variables = copied (codes ")") mode.Variables λ t us k e. one (at mode.Variables o fs) t us (moves (t ∷ []) [] (at mode.Variables o fs)) (
      λ i. move_by (at mode.Variables o fs) t t.kind t.text (if e i then (Itself, mode.Defines) else (if k i then Refused else Itself, mode.Variables))
      )

  pub a_test : (ts us : List Token) → AreUpTo (codes "then") ts → Goes (at mode.Test o fs) (ts ++ us) ts [] (at mode.Test o fs) us
  a_test = copied (codes "then") mode.Test λ t us k e. one (at mode.Test o fs) t us (moves (t ∷ []) [] (at mode.Test o fs)) (
      λ i. move_by (at mode.Test o fs) t t.kind t.text (if e i then (Itself, mode.Output) else (if k i then Refused else Itself, mode.Test))
      )

  pub a_line : (ts us : List Token) → AreUpTo (codes ";") ts → Goes (at mode.Line o fs) (ts ++ us) ts [] (at mode.Line o fs) us
  a_line = copied (codes ";") mode.Line λ t us k e. one (at mode.Line o fs) t us (moves (t ∷ []) [] (at mode.Line o fs)) (
      λ i. move_by (at mode.Line o fs) t t.kind t.text (if e i then (Itself, mode.Output) else (if k i then Refused else Itself, mode.Line))
      )

  pub a_term : (ts us : List Token) → AreUpTo (codes ";") ts → Goes (at mode.Term o fs) (ts ++ us) ts [] (at mode.Term o fs) us
  a_term = copied (codes ";") mode.Term λ t us k e. one (at mode.Term o fs) t us (moves (t ∷ []) [] (at mode.Term o fs)) (
      λ i. move_by (at mode.Term o fs) t t.kind t.text (if e i then (Into, mode.Output) else (if k i then Refused else Itself, mode.Term))
      )

  -- one token more in parentheses, and one parenthesis more or less

  abbrev pub payload : ℕ → State
  payload count = at (mode.Payload count) o fs

  pub payload_keeps : (c : ℕ) (t : Token) (us : List Token) → IsKept t → (bytes_eq t.text (codes "(") || bytes_eq t.text (codes ")")) ≡ false → Goes (payload c) (t ∷ us) (t ∷ []) [] (payload c) us
  payload_keeps c t us k e =
      let p = or_parts (bytes_eq t.text (codes "(")) (bytes_eq t.text (codes ")")) e in
      one (payload c) t us (moves (t ∷ []) [] (payload c)) (
      λ i. move_by (payload c) t t.kind t.text (if p.0 i then (Itself, mode.Payload (one_more c)) else (if p.1 i then (if nat_lt 1 c then (Itself, mode.Payload (c - 1)) else (Ends, mode.Behind)) else (if k i then Refused else Itself, mode.Payload c)))
      )

  pub payload_opens : (c : ℕ) (t : Token) (us : List Token) → c < 1000 → Is t (codes "(") → Goes (payload c) (t ∷ us) (t ∷ []) [] (payload (suc c)) us
  payload_opens c t us h e =
      let b : nat_lt c 1000 ≡ true = grind (arith, nat_tests) in
      let n : c + 1 ≡ suc c = omega arith in
      at_text (payload c) t us (codes "(") (moves (t ∷ []) [] (payload (suc c))) e (λ i. moves (t ∷ []) [] (payload (if b i then n i else c)))

  pub payload_closes : (c : ℕ) (t : Token) (us : List Token) → Is t (codes ")") → Goes (payload (suc (suc c))) (t ∷ us) (t ∷ []) [] (payload (suc c)) us
  payload_closes c t us e =
      let b : nat_lt 1 (suc (suc c)) ≡ true = grind (arith, nat_tests) in
      let n : suc (suc c) - 1 ≡ suc c = omega arith in
      at_text (payload (suc (suc c))) t us (codes ")") (moves (t ∷ []) [] (payload (suc c))) e
      ((λ i. move_by (payload (suc (suc c))) t t.kind (codes ")") (if b i then (Itself, mode.Payload (suc (suc c) - 1)) else (Ends, mode.Behind))) ∙ (λ i. moves (t ∷ []) [] (payload (n i))))

  pub matched : (n : ℕ) (ts us : List Token) → AreMatched n ts → Goes (payload (suc n)) (ts ++ us) ts [] (payload 1) us
  matched n ts us none = stay (payload 1) us
  matched n (t ∷ ts) us (another k e a) = both (payload_keeps (suc n) t (ts ++ us) k e) (matched n ts us a)
  matched n (t ∷ ts) us (opens h e a) = both (payload_opens (suc n) t (ts ++ us) (omega arith) e) (matched (suc n) ts us a)
  matched (suc n) (t ∷ ts) us (closes e a) = both (payload_closes n t (ts ++ us) e) (matched n ts us a)

  -- single tokens

  pub keeps_index : (t : Token) (us : List Token) → IsKept t → Goes (at mode.Index o fs) (t ∷ us) (t ∷ []) [] (at mode.Below o fs) us
  keeps_index t us k = one (at mode.Index o fs) t us (moves (t ∷ []) [] (at mode.Below o fs)) (λ i. move_by (at mode.Index o fs) t t.kind t.text (if k i then Refused else Itself, mode.Below))

  pub keeps_below : (t : Token) (us : List Token) → IsKept t → Goes (at mode.Below o fs) (t ∷ us) (t ∷ []) [] (at mode.Bound o fs) us
  keeps_below t us k = one (at mode.Below o fs) t us (moves (t ∷ []) [] (at mode.Bound o fs)) (λ i. move_by (at mode.Below o fs) t t.kind t.text (if k i then Refused else Itself, mode.Bound))

  pub keeps_bound : (t : Token) (us : List Token) → IsKept t → Goes (at mode.Bound o fs) (t ∷ us) (t ∷ []) [] (at mode.Do o fs) us
  keeps_bound t us k = one (at mode.Bound o fs) t us (moves (t ∷ []) [] (at mode.Do o fs)) (λ i. move_by (at mode.Bound o fs) t t.kind t.text (if k i then Refused else Itself, mode.Do))

  pub keeps_type : (t : Token) (us : List Token) → IsKept t → Goes (at mode.OfType o fs) (t ∷ us) (t ∷ []) [] (at mode.Gets o fs) us
  keeps_type t us k = one (at mode.OfType o fs) t us (moves (t ∷ []) [] (at mode.Gets o fs)) (λ i. move_by (at mode.OfType o fs) t t.kind t.text (if k i then Refused else Itself, mode.Gets))

  pub closes_here : (more : List Opened) (p : Token) (t : Token) (us : List Token) → AreTests more → Is t (codes ")") →
      Goes (at mode.Behind p (more ++ open_as Parenthesis o ∷ fs)) (t ∷ us) (t ∷ []) [] (at mode.Behind p fs) us
  closes_here more p t us a e =
      at_text (at mode.Behind p (more ++ open_as Parenthesis o ∷ fs)) t us (codes ")") (moves (t ∷ []) [] (at mode.Behind p fs)) e
      (ap (λ l. moves (t ∷ []) [] (at mode.Behind p (behind_one l))) (passed (is_one sought.Parenthesis) more (open_as Parenthesis o) fs a refl))

  pub or_finds : (more : List Opened) (p : Token) (t : Token) (us : List Token) → HaveNoFind more → Is t (codes "orfind") →
      Goes (at mode.Behind p (more ++ open_as Find o ∷ fs)) (t ∷ us) (t ∷ []) [] (at mode.Test o (open_as Find o ∷ fs)) us
  or_finds more p t us a e =
      at_text (at mode.Behind p (more ++ open_as Find o ∷ fs)) t us (codes "orfind") (moves (t ∷ []) [] (at mode.Test o (open_as Find o ∷ fs))) e
      (ap (λ l. moves (t ∷ []) [] (at mode.Test (oracle_of l p) l)) (passed (is_one sought.Find) more (open_as Find o) fs a refl))

  pub others : (p : Token) (f : Opened) (t : Token) (us : List Token) → f.oracle ≡ o → is_one sought.Test f ≡ true → Is t (codes "else") →
      Goes (at mode.Behind p (f ∷ fs)) (t ∷ us) (t ∷ []) [] (at mode.Output o fs) us
  others p f t us e b w =
      at_text (at mode.Behind p (f ∷ fs)) t us (codes "else") (moves (t ∷ []) [] (at mode.Output o fs)) w
      (ap (λ l. moves (t ∷ []) [] (at mode.Output (oracle_of l p) (behind_one l))) (passed (is_one sought.Test) [] f fs tt b) ∙ ap (λ q. moves (t ∷ []) [] (at mode.Output q fs)) e)
