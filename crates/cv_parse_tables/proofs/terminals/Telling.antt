-- The signs say what the tokens say, by the names in the end.
use Rattle.std.proofs.Common.{◌≡◌, ℕ, zero, suc, ◌+◌, ◌<◌, ◌⊎◌, Bool, true, false, ◌&&◌, List, [], ◌∷◌, ◌++◌, length, get_or, Option, Some, None, refl, ap, sym, ◌∙◌, subst, arith, codes, inl, inr}
use Rattle.std.specs.Prelude.{slice_get, All}
use Rattle.std.specs.Str.{bytes_eq}
use Rattle.std.proofs.lemmas.List.{length_push}
use Rattle.std.proofs.lemmas.List.Elements.{All-head, All-tail}
use Rattle.std.proofs.lemmas.Option.{slice_get_within, slice_get-get_or}
use Rattle.cv_lex.specs.declared.TokenKind.{TokenKind}
use Rattle.cv_lex.specs.declared.TokenKind.TheVariants as kind
use Rattle.cv_lex.specs.Lexis.{Token, IsToken, end_token}
use Rattle.cv_lex.specs.View.{token_at, AreTokens}
use Rattle.cv_lex.proofs.Pieces.{token_not_end}
use Rattle.cv_parse_notation.specs.declared.script.ScriptWord.TheVariants.{Plain}
use Rattle.cv_parse_notation.specs.declared.sign.Mark.{Mark}
use Rattle.cv_parse_notation.specs.declared.sign.Mark.TheVariants as mark
use Rattle.cv_parse_notation.specs.declared.sign.Sign.{Sign}
use Rattle.cv_parse_notation.specs.declared.sign.Sign.TheVariants as sign
use Rattle.cv_pool.specs.names.Texts.{NoRepeat}
use Rattle.cv_parse_tables.specs.declared.terminals.pass.Counts.{Counts}
use Rattle.cv_parse_tables.specs.declared.terminals.openings.Turn.{Turn}
use Rattle.cv_parse_tables.specs.declared.terminals.openings.Turn.TheVariants.{Event, Period, Opening, Closing, Joining, Arrow, Other}
use Rattle.cv_parse_tables.specs.declared.terminals.openings.Place.TheVariants.{Outside}
use Rattle.cv_parse_tables.specs.spelling.Spelling.{mark_of_text, spelling}
use Rattle.cv_parse_tables.specs.terminals.Openings.{turn_of, turn_of_mark, with_opening}
use Rattle.cv_parse_tables.specs.terminals.Signs.{Step, Signed, no_counts, join, step_before, unnamed_name, is_unnamed, first_text, token_step, text_step, word_step, signs_from, signs_in, signs_of, place_of, Tells, TellInOrder, NumberBelow}
use Rattle.cv_parse_tables.specs.terminals.Braces.{file_tokens}
use Rattle.cv_parse_tables.proofs.terminals.FileTokens.{are_read, length_read_from}
use Rattle.cv_parse_tables.proofs.spelling.Table.{only}
use Rattle.cv_parse_tables.proofs.terminals.RightSides.{length_openings, told_at}
use Rattle.cv_parse_tables.proofs.terminals.Naming.{text_test, with_name_keeps, with_name_has, with_name_apart}
use Rattle.cv_parse_tables.proofs.terminals.Walk.{no_end_yet}

-- one list of names begins with another
abbrev pub Keeps : List (List ℕ) → List (List ℕ) → Type 0
Keeps names more = (n : ℕ) (text : List ℕ) → slice_get names n ≡ Some text → slice_get more n ≡ Some text

-- more names: each keeps its place, and none comes twice
pub record IsGrown (names more : List (List ℕ)) : Type 0 where
  pub keeps : Keeps names more
  pub apart : NoRepeat names → NoRepeat more

pub grown_same : (names : List (List ℕ)) → IsGrown names names
grown_same names = record { keeps = λ n text h. h; apart = λ u. u }

grown_word : (names : List (List ℕ)) (counts : Counts) (text : List ℕ) → IsGrown names (word_step names counts text).names
grown_word names counts text =
    elim (text_test text (codes "find")) [
      | inl a ↦ rw a.0 (grown_same names)
      | inr b ↦ rw b (record { keeps = with_name_keeps names text; apart = with_name_apart names text })
    ]

grown_text : (names : List (List ℕ)) (counts : Counts) (text : List ℕ) (m : Option Mark) → IsGrown names (text_step names counts text m).names
grown_text names counts text (Some m) = grown_same names
grown_text names counts text None = grown_word names counts text

grown_step : (names : List (List ℕ)) (counts : Counts) (w : TokenKind) (text : List ℕ) → IsGrown names (token_step names counts w text).names
grown_step names counts kind.Ident text = grown_text names counts text (mark_of_text text)
grown_step names counts kind.Symbol text = grown_text names counts text (mark_of_text text)
grown_step names counts (kind.Number v) text = grown_same names
grown_step names counts kind.End text = grown_same names

-- a collision without a name, or another token
unnamed_test : (text next : List ℕ) → ((is_unnamed text next ≡ true) × (text ≡ codes "collision")) ⊎ (is_unnamed text next ≡ false)
unnamed_test text next =
    elim (text_test text (codes "collision")) [
      | inl a ↦ elim (text_test next (codes "new")) [
        | inl b ↦ inl (ap (λ x. x && bytes_eq next (codes "new")) a.0 ∙ b.0, a.1)
        | inr b ↦ inr (ap (λ x. x && bytes_eq next (codes "new")) a.0 ∙ b)
      ]
      | inr b ↦ inr (ap (λ x. x && bytes_eq next (codes "new")) b)
    ]

grown_before : (names : List (List ℕ)) (counts : Counts) (w : TokenKind) (text next : List ℕ) → IsGrown names (step_before names counts w text next).names
grown_before names counts w text next =
    elim (unnamed_test text next) [
      | inl a ↦ rw a.0 (record { keeps = with_name_keeps names (unnamed_name (suc counts.unnamed)); apart = with_name_apart names (unnamed_name (suc counts.unnamed)) })
      | inr b ↦ rw b (grown_step names counts w text)
    ]

pub grown_more : (a b c : List (List ℕ)) → IsGrown a b → IsGrown b c → IsGrown a c
grown_more a b c f g = record { keeps = λ n text h. g.keeps n text (f.keeps n text h); apart = λ u. g.apart (f.apart u) }

-- the names only grow
pub grown : (names : List (List ℕ)) (counts : Counts) (ts : List Token) → IsGrown names (signs_from names counts ts).names
unfolding signs_from
grown names counts [] = grown_same names
grown names counts (t ∷ ts) =
    let s : Step = step_before names counts t.kind t.text (first_text ts) in
    grown_more names s.names (signs_from s.names s.counts ts).names (grown_before names counts t.kind t.text (first_text ts)) (grown s.names s.counts ts)

-- a step has one sign, which says what its token says
record Says (t : Token) (s : Step) : Type 0 where
  one : Sign
  alone : s.signs ≡ one ∷ []
  tells : Tells s.names t one

says_word : (names : List (List ℕ)) (counts : Counts) (t : Token) → mark_of_text t.text ≡ None → Says t (word_step names counts t.text)
says_word names counts t no_mark =
    elim (text_test t.text (codes "find")) [
      | inl a ↦ rw a.0 (record { one = sign.Find (suc counts.finds); alone = refl; tells = a.1 })
      | inr b ↦ rw b (record { one = sign.Word (place_of names t.text) Plain; alone = refl; tells = (with_name_has names t.text, no_mark, refl) })
    ]

says_text : (names : List (List ℕ)) (counts : Counts) (t : Token) (m : Option Mark) → mark_of_text t.text ≡ m → Says t (text_step names counts t.text m)
says_text names counts t (Some m) e = record { one = sign.Mark m; alone = refl; tells = sym (only t.text m e) }
says_text names counts t None e = says_word names counts t e

says_step : (names : List (List ℕ)) (counts : Counts) (t : Token) (w : TokenKind) → t.kind ≡ w → (t.kind ≡ kind.End → ⊥) → Says t (token_step names counts w t.text)
says_step names counts t kind.Ident e inner = says_text names counts t (mark_of_text t.text) refl
says_step names counts t kind.Symbol e inner = says_text names counts t (mark_of_text t.text) refl
says_step names counts t (kind.Number v) e inner = record { one = sign.Number v; alone = refl; tells = e }
says_step names counts t kind.End e inner = absurd (inner e)

says_before : (names : List (List ℕ)) (counts : Counts) (t : Token) (next : List ℕ) → (t.kind ≡ kind.End → ⊥) → Says t (step_before names counts t.kind t.text next)
says_before names counts t next inner =
    let name : List ℕ = unnamed_name (suc counts.unnamed) in
    elim (unnamed_test t.text next) [
      | inl a ↦ rw a.0 (record { one = sign.Unnamed (place_of names name); alone = refl; tells = (a.1, (suc counts.unnamed, omega arith, with_name_has names name)) })
      | inr b ↦ rw b (says_step names counts t t.kind refl inner)
    ]

-- with more names a sign says the same
tells_more : (names more : List (List ℕ)) (t : Token) (s : Sign) → Keeps names more → Tells names t s → Tells more t s
tells_more names more t (sign.Word n w) keeps h = (keeps n t.text h.0, h.1, h.2)
tells_more names more t (sign.Number v) keeps h = h
tells_more names more t (sign.Find n) keeps h = h
tells_more names more t (sign.Unnamed n) keeps h = (h.0, (h.1.0, h.1.1, keeps n (unnamed_name h.1.0) h.1.2))
tells_more names more t (sign.Mark m) keeps h = h

-- the first signs, none of an end token, say what their tokens say
tell_from : (names : List (List ℕ)) (counts : Counts) (ts : List Token) → ((k : ℕ) → k + 1 < length ts → (token_at ts k).kind ≡ kind.End → ⊥) → TellInOrder (signs_from names counts ts).names ts (signs_from names counts ts).signs
unfolding signs_from
tell_from names counts [] inner k h = absurd (omega arith)
tell_from names counts (t ∷ ts) inner zero h =
    let s : Step = step_before names counts t.kind t.text (first_text ts) in
    let says : Says t s = says_before names counts t (first_text ts) (inner 0 h) in
    let rest : Signed = signs_from s.names s.counts ts in
    (says.one, ap (λ l. slice_get (join l rest).signs 0) says.alone, tells_more s.names rest.names t says.one (grown s.names s.counts ts).keeps says.tells)
tell_from names counts (t ∷ ts) inner (suc k) h =
    let s : Step = step_before names counts t.kind t.text (first_text ts) in
    let below : k + 1 < length ts = omega arith in
    let says : Says t s = says_before names counts t (first_text ts) (inner 0 (omega arith)) in
    let rest : Signed = signs_from s.names s.counts ts in
    let later = tell_from s.names s.counts ts (λ j g. inner (suc j) (omega arith)) k below in
    (later.0, ap (λ l. slice_get (join l rest).signs (suc k)) says.alone ∙ later.1, later.2)

tell_in : (ts : List Token) → AreTokens ts → TellInOrder (signs_in ts).names ts (signs_in ts).signs
tell_in ts are = tell_from (codes "bool" ∷ []) no_counts ts (λ k h. no_end_yet ts are k h (token_at ts k).kind refl)

-- both kinds of an opening parenthesis have one text

opening_text : (m : Mark) → turn_of_mark m ≡ Opening → spelling m ≡ codes "("
opening_text mark.Open e = refl
opening_text mark.OpenAtoms e = refl
opening_text m e = absurd (cc)

told_tells : (names : List (List ℕ)) (t : Token) (right : Bool) (s : Sign) → Tells names t s → Tells names t (with_opening right (turn_of s) s)
told_tells names t right (sign.Mark m) h = go right (turn_of_mark m) refl where
  go : (r : Bool) (u : Turn) → turn_of_mark m ≡ u → Tells names t (with_opening r u (sign.Mark m))
  go true Opening e = h ∙ opening_text m e
  go false Opening e = h ∙ opening_text m e
  go r Event e = h
  go r Period e = h
  go r Closing e = h
  go r Joining e = h
  go r Arrow e = h
  go r Other e = h
told_tells names t right (sign.Word n w) h = h
told_tells names t right (sign.Number v) h = h
told_tells names t right (sign.Find n) h = h
told_tells names t right (sign.Unnamed n) h = h

pub tell_all : (ts : List Token) → AreTokens ts → TellInOrder (signs_of ts).names (file_tokens ts) (signs_of ts).signs
tell_all ts are k h =
    let us = file_tokens ts in
    let x = tell_in us (are_read ts are) k h in
    let y = told_at Outside (signs_in us).signs k x.0 x.1 in
    (with_opening y.0 (turn_of x.0) x.0, y.1, told_tells (signs_in us).names (token_at us k) y.0 x.0 x.2)

-- one name is none twice
alone_apart : (text : List ℕ) → NoRepeat (text ∷ [])
alone_apart text zero zero t a b = refl
alone_apart text zero (suc j) t a b = absurd (cc)
alone_apart text (suc i) j t a b = absurd (cc)

pub names_apart : (ts : List Token) → NoRepeat (signs_of ts).names
names_apart ts = (grown (codes "bool" ∷ []) no_counts (file_tokens ts)).apart (alone_apart (codes "bool"))

pub bool_first : (ts : List Token) → slice_get (signs_of ts).names 0 ≡ Some (codes "bool")
bool_first ts = (grown (codes "bool" ∷ []) no_counts (file_tokens ts)).keeps 0 (codes "bool") refl

-- so many signs as tokens, but for the end token
count_from : (names : List (List ℕ)) (counts : Counts) (front : List Token) (end : ℕ) → All (λ t. IsToken t.kind t.text) front → length (signs_from names counts (front ++ end_token end ∷ [])).signs ≡ length front
unfolding signs_from
count_from names counts [] end each = refl
count_from names counts (t ∷ front) end each =
    let behind : List Token = front ++ end_token end ∷ [] in
    let s : Step = step_before names counts t.kind t.text (first_text behind) in
    let is : IsToken t.kind t.text = All-head (λ t. IsToken t.kind t.text) t front each in
    let says : Says t s = says_before names counts t (first_text behind) (λ e. token_not_end t.text (subst (λ w. IsToken w t.text) e is)) in
    let rest : Signed = signs_from s.names s.counts behind in
    ap (λ l. length (join l rest).signs) says.alone ∙ ap suc (count_from s.names s.counts front end (All-tail (λ t. IsToken t.kind t.text) t front each))

count_in : (ts : List Token) → AreTokens ts → length (signs_in ts).signs + 1 ≡ length ts
count_in ts are =
    let front : length (signs_in ts).signs ≡ length are.front = ap (λ l. length (signs_in l).signs) are.all ∙ count_from (codes "bool" ∷ []) no_counts are.front are.end are.each in
    let all : length ts ≡ length are.front + 1 = ap length are.all ∙ length_push are.front (end_token are.end) in
    omega arith

pub count_all : (ts : List Token) → AreTokens ts → length (signs_of ts).signs + 1 ≡ length ts
count_all ts are =
    let us = file_tokens ts in
    ap (λ n. n + 1) (length_openings Outside (signs_in us).signs) ∙ (count_in us (are_read ts are) ∙ length_read_from 0 ts)

-- what a sign tells is among the names
below_told : (names : List (List ℕ)) (t : Token) (s : Sign) → Tells names t s → NumberBelow (length names) s
below_told names t (sign.Word n w) h = slice_get_within names n t.text h.0
below_told names t (sign.Number v) h = tt
below_told names t (sign.Find n) h = tt
below_told names t (sign.Unnamed n) h = slice_get_within names n (unnamed_name h.1.0) h.1.2
below_told names t (sign.Mark m) h = tt

pub numbers_below : (ts : List Token) → AreTokens ts → All (NumberBelow (length (signs_of ts).names)) (signs_of ts).signs
numbers_below ts are k d h =
    let count = count_all ts are in
    let long = length_read_from 0 ts in
    let told = tell_all ts are k (omega arith) in
    let here : slice_get (signs_of ts).signs k ≡ Some (get_or (signs_of ts).signs k d) = slice_get-get_or (signs_of ts).signs k d h in
    let same : told.0 ≡ get_or (signs_of ts).signs k d = cc (here, told.1) in
    subst (NumberBelow (length (signs_of ts).names)) same (below_told (signs_of ts).names (token_at (file_tokens ts) k) told.0 told.2)
