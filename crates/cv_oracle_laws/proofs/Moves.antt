-- The moves of the translation at each token of a phrase.
use Rattle.std.proofs.Common.{◌≡◌, ℕ, Bool, true, false, if◌then◌else◌, ◌||◌, List, [], ◌∷◌, codes, refl, ap, ◌∙◌, Some, None}
use Rattle.std.specs.Str.{bytes_eq}
use Rattle.cv_lex.specs.declared.TokenKind.TheVariants as kind
use Rattle.cv_lex.specs.Lexis.{Token, IsToken}
use Rattle.cv_parse_tables.specs.terminals.Signs.{first_text}
use Rattle.cv_oracles.specs.declared.form.Form.TheVariants.{Itself, Refused, Bang, Receives, Yields, Sends, SendsNothing, Draws, Binds}
use Rattle.cv_oracles.specs.declared.form.Mode.TheVariants.{Input, Index, Head, Output, Arrow, Line, Colon, Test, Payload, Behind}
use Rattle.cv_oracles.specs.declared.frames.Opening.TheVariants.{Parenthesis, If, Find}
use Rattle.cv_oracles.specs.Readings.{opening_of}
use Rattle.cv_oracles.specs.Regions.{is_name}
use Rattle.cv_oracles.specs.Steps.{is_number, returned}
use Rattle.cv_oracle_laws.specs.Tokens.{word, symbol, Is, Lack}
use Rattle.cv_oracle_laws.proofs.Runs.{Opened, State, at, open_as, Move, move, move_by, opens_by, with_mode, Goes, one}
use Rattle.cv_oracle_laws.proofs.Texts.{isnt, number_isnt, open_no_name, if_no_name, event_no_name, find_no_name, foreach_no_name, end_no_name, return_no_name}

-- a token with a known text
pub at_text : (s : State) (t : Token) (ts : List Token) (text : List ℕ) (m : Move) → Is t text → move s t t.kind text (first_text ts) ≡ m → Goes s (t ∷ ts) m.written m.defined m.after ts
at_text s t ts text m e f = one s t ts m (ap (λ x. move s t t.kind x (first_text ts)) e ∙ f)

abbrev pub moves : List Token → List Token → State → Move
moves fs os s = record { written = fs; defined = os; after = s }

module _ (o : Token) (fs : List Opened) where
  -- input processes

  pub input_opens : (t : Token) (ts : List Token) → Is t (codes "(") → Goes (at Input o fs) (t ∷ ts) (t ∷ []) [] (at Input o (open_as Parenthesis o ∷ fs)) ts
  input_opens t ts e =
      at_text (at Input o fs) t ts (codes "(") (moves (t ∷ []) [] (at Input o (open_as Parenthesis o ∷ fs))) e
      (ap (λ b. moves (t ∷ []) (if b then t ∷ [] else []) (at Input o (open_as Parenthesis o ∷ fs))) (open_no_name t.kind))

  pub input_repeats : (t : Token) (ts : List Token) → Is t (codes "foreach") → Goes (at Input o fs) (t ∷ ts) (symbol (codes "!") ∷ []) [] (at Index o fs) ts
  input_repeats t ts e =
      at_text (at Input o fs) t ts (codes "foreach") (moves (symbol (codes "!") ∷ []) [] (at Index o fs)) e
      (ap (λ b. moves (symbol (codes "!") ∷ []) (if b then t ∷ [] else []) (with_mode Index (if b then at Input t fs else at Input o fs))) (foreach_no_name t.kind))

  -- the name of an oracle
  pub input_defines : (t : Token) (ts : List Token) → is_name t.kind t.text ≡ true →
      Goes (at Input o fs) (t ∷ ts) (word (codes "in") ∷ symbol (codes "(") ∷ t ∷ symbol (codes ",") ∷ []) (t ∷ []) (at Head t fs) ts
  input_defines t ts e =
      let a = isnt t.kind t.text (codes "(") e (open_no_name t.kind) in
      let b = isnt t.kind t.text (codes "foreach") e (foreach_no_name t.kind) in
      one (at Input o fs) t ts (moves (word (codes "in") ∷ symbol (codes "(") ∷ t ∷ symbol (codes ",") ∷ []) (t ∷ []) (at Head t fs)) (
      ap (move_by (at Input o fs) t t.kind t.text) (λ i. if a i then (Itself, Input) else (if b i then (Bang, Index) else (if e i then (Receives, Head) else (if is_number t.kind then (Itself, Behind) else (Refused, Behind)))))
      ∙ (λ i. moves (word (codes "in") ∷ symbol (codes "(") ∷ t ∷ symbol (codes ",") ∷ []) (if e i then t ∷ [] else []) (with_mode Head (if a i then at Input o (open_as Parenthesis o ∷ fs) else (if e i then at Input t fs else at Input o fs))))
      )

  pub input_ends : (t : Token) (ts : List Token) → t.kind ≡ kind.Number 0 → IsToken t.kind t.text → Goes (at Input o fs) (t ∷ ts) (t ∷ []) [] (at Behind o fs) ts
  input_ends t ts e l =
      let a = number_isnt t.kind t.text (codes "(") kind.Symbol 1 l (ap is_number e) refl refl in
      let b = number_isnt t.kind t.text (codes "foreach") kind.Ident 7 l (ap is_number e) refl refl in
      let c : is_name t.kind t.text ≡ false = ap (λ k. is_name k t.text) e in
      let d : is_number t.kind ≡ true = ap is_number e in
      one (at Input o fs) t ts (moves (t ∷ []) [] (at Behind o fs)) (
      ap (move_by (at Input o fs) t t.kind t.text) (λ i. if a i then (Itself, Input) else (if b i then (Bang, Index) else (if c i then (Receives, Head) else (if d i then (Itself, Behind) else (Refused, Behind)))))
      ∙ (λ i. moves (t ∷ []) (if c i then t ∷ [] else []) (with_mode Behind (if a i then at Input o (open_as Parenthesis o ∷ fs) else (if c i then at Input t fs else at Input o fs))))
      )

  -- output processes

  pub output_opens : (t : Token) (ts : List Token) → Is t (codes "(") → Goes (at Output o fs) (t ∷ ts) (t ∷ []) [] (at Output o (open_as Parenthesis o ∷ fs)) ts
  output_opens t ts e = at_text (at Output o fs) t ts (codes "(") (moves (t ∷ []) [] (at Output o (open_as Parenthesis o ∷ fs))) e refl

  pub output_ends : (t : Token) (ts : List Token) → Is t (codes "end") → Goes (at Output o fs) (t ∷ ts) (word (codes "yield") ∷ []) [] (at Behind o fs) ts
  output_ends t ts e = at_text (at Output o fs) t ts (codes "end") (moves (word (codes "yield") ∷ []) [] (at Behind o fs)) e refl

  abbrev returns_by : Token → Bool → Move
  returns_by t b = move_by (at Output o fs) t t.kind (codes "return") (if b then (Sends, Payload 0) else (SendsNothing, Behind))

  pub output_returns : (t : Token) (ts : List Token) → Is t (codes "return") → Lack ts (codes "(") →
      Goes (at Output o fs) (t ∷ ts) (word (codes "out") ∷ symbol (codes "(") ∷ o ∷ symbol (codes ",") ∷ symbol (codes "(") ∷ symbol (codes ")") ∷ symbol (codes ")") ∷ []) [] (at Behind o fs) ts
  output_returns t ts e l = at_text (at Output o fs) t ts (codes "return") (returns_by t false) e (ap (returns_by t) l)

  pub output_sends : (t a : Token) (ts : List Token) → Is t (codes "return") → Is a (codes "(") →
      Goes (at Output o fs) (t ∷ a ∷ ts) (word (codes "out") ∷ symbol (codes "(") ∷ o ∷ symbol (codes ",") ∷ []) [] (at (Payload 0) o fs) (a ∷ ts)
  output_sends t a ts e l = at_text (at Output o fs) t (a ∷ ts) (codes "return") (returns_by t true) e (ap (λ x. returns_by t (bytes_eq x (codes "("))) l)

  pub output_records : (t : Token) (ts : List Token) → Is t (codes "event") → Goes (at Output o fs) (t ∷ ts) (t ∷ []) [] (at Line o fs) ts
  output_records t ts e = at_text (at Output o fs) t ts (codes "event") (moves (t ∷ []) [] (at Line o fs)) e refl

  pub output_tests : (t : Token) (ts : List Token) → Is t (codes "if") → Goes (at Output o fs) (t ∷ ts) (t ∷ []) [] (at Test o (open_as If o ∷ fs)) ts
  output_tests t ts e = at_text (at Output o fs) t ts (codes "if") (moves (t ∷ []) [] (at Test o (open_as If o ∷ fs))) e refl

  pub output_finds : (t : Token) (ts : List Token) → Is t (codes "find") → Goes (at Output o fs) (t ∷ ts) (t ∷ []) [] (at Test o (open_as Find o ∷ fs)) ts
  output_finds t ts e = at_text (at Output o fs) t ts (codes "find") (moves (t ∷ []) [] (at Test o (open_as Find o ∷ fs))) e refl

  -- a name in an output process, before this text
  pub output_names : (t : Token) (next : List ℕ) → is_name t.kind t.text ≡ true →
      move (at Output o fs) t t.kind t.text next ≡ move_by (at Output o fs) t t.kind t.text (if bytes_eq next (codes "<-") then (Draws, Arrow) else (Binds, Colon))
  output_names t next e =
      let a = isnt t.kind t.text (codes "(") e (open_no_name t.kind) in
      let b = isnt t.kind t.text (codes "end") e (end_no_name t.kind) in
      let c = isnt t.kind t.text (codes "return") e (return_no_name t.kind) in
      let d = isnt t.kind t.text (codes "event") e (event_no_name t.kind) in
      let f = isnt t.kind t.text (codes "if") e (if_no_name t.kind) in
      let g = isnt t.kind t.text (codes "find") e (find_no_name t.kind) in
      ap (move_by (at Output o fs) t t.kind t.text) (λ i.
      if a i then (Itself, Output) else (if b i then (Yields, Behind) else (if c i then returned next else (if d i then (Itself, Line)
      else (if f i || g i then (Itself, Test) else (if e i then (if bytes_eq next (codes "<-") then (Draws, Arrow) else (Binds, Colon)) else (Refused, Behind)))))))

  -- it opens nothing
  names_open_nothing : (t : Token) → is_name t.kind t.text ≡ true → opening_of t.text ≡ None
  names_open_nothing t e =
      let a = isnt t.kind t.text (codes "(") e (open_no_name t.kind) in
      let f = isnt t.kind t.text (codes "if") e (if_no_name t.kind) in
      let g = isnt t.kind t.text (codes "find") e (find_no_name t.kind) in
      λ i. if a i then Some Parenthesis else (if f i then Some If else (if g i then Some Find else None))

  pub output_draws : (t a : Token) (ts : List Token) → is_name t.kind t.text ≡ true → Is a (codes "<-") →
      Goes (at Output o fs) (t ∷ a ∷ ts) (word (codes "new") ∷ t ∷ symbol (codes ":") ∷ []) [] (at Arrow o fs) (a ∷ ts)
  output_draws t a ts e l =
      one (at Output o fs) t (a ∷ ts) (moves (word (codes "new") ∷ t ∷ symbol (codes ":") ∷ []) [] (at Arrow o fs)) (
      output_names t a.text e
      ∙ ap (λ x. move_by (at Output o fs) t t.kind t.text (if bytes_eq x (codes "<-") then (Draws, Arrow) else (Binds, Colon))) l
      ∙ ap (λ p. moves (word (codes "new") ∷ t ∷ symbol (codes ":") ∷ []) [] (with_mode Arrow (opens_by (at Output o fs) p))) (names_open_nothing t e)
      )

  -- the same before any other text
  pub output_lets : (t : Token) (ts : List Token) → is_name t.kind t.text ≡ true → bytes_eq (first_text ts) (codes "<-") ≡ false → Goes (at Output o fs) (t ∷ ts) (word (codes "let") ∷ t ∷ []) [] (at Colon o fs) ts
  output_lets t ts e l =
      one (at Output o fs) t ts (moves (word (codes "let") ∷ t ∷ []) [] (at Colon o fs)) (
      output_names t (first_text ts) e
      ∙ ap (λ b. move_by (at Output o fs) t t.kind t.text (if b then (Draws, Arrow) else (Binds, Colon))) l
      ∙ ap (λ p. moves (word (codes "let") ∷ t ∷ []) [] (with_mode Colon (opens_by (at Output o fs) p))) (names_open_nothing t e)
      )

  pub output_binds : (t a : Token) (ts : List Token) → is_name t.kind t.text ≡ true → Is a (codes ":") → Goes (at Output o fs) (t ∷ a ∷ ts) (word (codes "let") ∷ t ∷ []) [] (at Colon o fs) (a ∷ ts)
  output_binds t a ts e l = output_lets t (a ∷ ts) e (ap (λ x. bytes_eq x (codes "<-")) l)
