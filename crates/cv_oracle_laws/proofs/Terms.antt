-- Which signs terms and conditions have, and that their parentheses match.
use Rattle.std.proofs.Common.{◌≡◌, ℕ, zero, suc, ◌+◌, ◌<◌, Bool, true, false, if◌then◌else◌, inl, inr, List, [], ◌∷◌, ◌++◌, refl, ap, sym, ◌∙◌, subst, arith, Option, Some, None}
use Rattle.std.proofs.lemmas.List.{append_assoc}
use Rattle.cv_syntax_trees.specs.Tree.{Tree}
use Rattle.cv_parse_notation.specs.declared.sign.Mark.{Mark}
use Rattle.cv_parse_notation.specs.declared.sign.Mark.TheVariants as mark
use Rattle.cv_parse_notation.specs.declared.sign.Sign.{Sign}
use Rattle.cv_parse_notation.specs.declared.sign.Sign.TheVariants as token
use Rattle.cv_parse_notation.specs.Form.{sign, script_word, word, number, nought, find_word, unnamed, other, note, both, may, many, either, made, level, deeper}
use Rattle.cv_parse_notation.specs.Spells.{Each, IsSort, Kind, Perhaps, Relation, Spells, Use, starts}
use Rattle.cv_parse_grammar.specs.declared.role.Role.{Role}
use Rattle.cv_parse_grammar.specs.depth.Files.{most_levels}
use Rattle.cv_parse_grammar.specs.Phrases.{Phrase, Sort}
use Rattle.cv_parse_grammar.specs.Phrases as sort
use Rattle.cv_parse_grammar.specs.Rules.{heads, rule}
use Rattle.cv_oracle_laws.proofs.Spelled.{Front, Is, below, front_of, has_only, is_of, room}

-- the marks between the words of a process
abbrev pub line_mark : Mark → Bool
line_mark mark.Open = true
line_mark mark.Close = true
line_mark mark.OpenSquare = true
line_mark mark.CloseSquare = true
line_mark mark.Comma = true
line_mark mark.Equal = true
line_mark mark.Differ = true
line_mark mark.Both = true
line_mark mark.Either = true
line_mark mark.Not = true
line_mark mark.True = true
line_mark mark.False = true
line_mark mark.Bool = true
line_mark mark.Colon = true
line_mark mark.At = true
line_mark mark.AtMost = true
line_mark mark.Suchthat = true
line_mark mark.Defined = true
line_mark m = false

-- those of variables
abbrev pub variable_mark : Mark → Bool
variable_mark mark.Comma = true
variable_mark mark.Bool = true
variable_mark mark.Colon = true
variable_mark m = false

-- the sorts that stand there
abbrev pub inner_sort : Sort → Bool
inner_sort sort.Term = true
inner_sort sort.Conjunction = true
inner_sort sort.Primary = true
inner_sort sort.Unequal = true
inner_sort sort.Arguments = true
inner_sort sort.Subscript = true
inner_sort sort.Parentheses = true
inner_sort sort.Cells = true
inner_sort sort.OneCell = true
inner_sort s = false

inner_rows : (s : Sort) → inner_sort s ≡ true → has_only false line_mark inner_sort (rule s) ≡ true
inner_rows sort.Term e = refl
inner_rows sort.Conjunction e = refl
inner_rows sort.Primary e = refl
inner_rows sort.Unequal e = refl
inner_rows sort.Arguments e = refl
inner_rows sort.Subscript e = refl
inner_rows sort.Parentheses e = refl
inner_rows sort.Cells e = refl
inner_rows sort.OneCell e = refl
inner_rows s e = absurd (cc)

abbrev Fronts : Relation Role Tree → Type 0
Fronts S = (ts : List Sign) (t : Tree) (us : List (Use Role)) (rest : List Sign) → S ts t us rest → Front false line_mark ts rest

inner_fronts : (n : ℕ) (s : Sort) → inner_sort s ≡ true → Fronts (IsSort heads rule n s)
unfolding IsSort
inner_fronts zero s e ts t us rest d = front_of false line_mark zero inner_sort (λ z f ts t us rest i. absurd i) (rule s) (inner_rows s e) ts t us rest d
inner_fronts (suc n) s e ts t us rest d = front_of false line_mark (suc n) inner_sort (inner_fronts n) (rule s) (inner_rows s e) ts t us rest d

inner_below : (n : ℕ) (s : Sort) → inner_sort s ≡ true → Fronts (below n s)
inner_below zero s e ts t us rest i = absurd i
inner_below (suc n) s e ts t us rest d = inner_fronts n s e ts t us rest d

pub line_front : {n : ℕ} {A : Type 0} (f : Phrase A) → has_only false line_mark inner_sort f ≡ true → {ts rest : List Sign} → Is n f ts rest → Front false line_mark ts rest
line_front {n} f e {ts} {rest} x = front_of false line_mark n inner_sort (inner_below n) f e ts x.value x.uses rest x.spelled

pub variables_front : {n : ℕ} {A : Type 0} (f : Phrase A) → has_only false variable_mark (λ s. false) f ≡ true → {ts rest : List Sign} → Is n f ts rest → Front false variable_mark ts rest
variables_front {n} f e {ts} {rest} x = front_of false variable_mark n (λ s. false) (λ s h ts t us rest d. absurd (cc)) f e ts x.value x.uses rest x.spelled

-- a phrase without braces, whatever stands in it

abbrev pub bare_mark : Mark → Bool
bare_mark mark.OpenBrace = false
bare_mark mark.Proof = false
bare_mark mark.Process = false
bare_mark mark.Becomes = false
bare_mark m = true

abbrev pub bare_sort : Sort → Bool
bare_sort sort.Braces = false
bare_sort s = true

bare_rows : (s : Sort) → bare_sort s ≡ true → has_only true bare_mark bare_sort (rule s) ≡ true
bare_rows sort.Braces e = absurd (cc)
bare_rows s e = refl

abbrev BareFronts : Relation Role Tree → Type 0
BareFronts S = (ts : List Sign) (t : Tree) (us : List (Use Role)) (rest : List Sign) → S ts t us rest → Front true bare_mark ts rest

bare_fronts : (n : ℕ) (s : Sort) → bare_sort s ≡ true → BareFronts (IsSort heads rule n s)
unfolding IsSort
bare_fronts zero s e ts t us rest d = front_of true bare_mark zero bare_sort (λ z f ts t us rest i. absurd i) (rule s) (bare_rows s e) ts t us rest d
bare_fronts (suc n) s e ts t us rest d = front_of true bare_mark (suc n) bare_sort (bare_fronts n) (rule s) (bare_rows s e) ts t us rest d

bare_below : (n : ℕ) (s : Sort) → bare_sort s ≡ true → BareFronts (below n s)
bare_below zero s e ts t us rest i = absurd i
bare_below (suc n) s e ts t us rest d = bare_fronts n s e ts t us rest d

pub bare_front : {n : ℕ} {A : Type 0} (f : Phrase A) → has_only true bare_mark bare_sort f ≡ true → {ts rest : List Sign} → Is n f ts rest → Front true bare_mark ts rest
bare_front {n} f e {ts} {rest} x = front_of true bare_mark n bare_sort (bare_below n) f e ts x.value x.uses rest x.spelled

-- matched parentheses

-- what a mark is to them: other marks of terms
abbrev pub plain_mark : Mark → Bool
plain_mark mark.Open = false
plain_mark mark.Close = false
plain_mark m = line_mark m

-- signs that close so many open parentheses and match otherwise
pub data Closes : ℕ → List Sign → Type 0 where
  none : Closes 0 []
  another : {n : ℕ} {s : Sign} {ms : List Sign} → is_of false plain_mark s ≡ true → Closes n ms → Closes n (s ∷ ms)
  opens : {n : ℕ} {ms : List Sign} → n < most_levels → Closes (suc n) ms → Closes n (token.Mark mark.Open ∷ ms)
  closes : {n : ℕ} {ms : List Sign} → Closes n ms → Closes (suc n) (token.Mark mark.Close ∷ ms)

abbrev by_mark : Bool → Mark → Option Bool
by_mark false mark.Open = Some true
by_mark true mark.Close = Some false
by_mark i m = if plain_mark m then Some i else None

abbrev same : Bool → Bool → Bool
same true j = j
same false true = false
same false false = true

-- where it stays so
abbrev staying : Bool → Option Bool → Option Bool
staying i None = None
staying i (Some j) = if same i j then Some i else None

abbrev agreeing : Option Bool → Option Bool → Option Bool
agreeing None q = None
agreeing (Some i) q = staying i q

abbrev onward : Option Bool → (Bool → Option Bool) → Option Bool
onward None g = None
onward (Some i) g = g i

-- whether a parenthesis of the row is open behind a form
abbrev pub open_behind : {A : Type 0} → Phrase A → Bool → Option Bool
open_behind (sign m) i = by_mark i m
open_behind (word r) i = Some i
open_behind (note r) i = Some i
open_behind (both f g) i = onward (open_behind f i) (open_behind g)
open_behind (may near f) i = staying i (open_behind f i)
open_behind (many near f) i = staying i (open_behind f i)
open_behind (either f g) i = agreeing (open_behind f i) (open_behind g i)
open_behind (made v f) i = open_behind f i
open_behind (level f) i = open_behind f i
open_behind (deeper s) i = if inner_sort s then Some i else None
open_behind f i = None

abbrev deep : ℕ → Bool → ℕ
deep k true = suc k
deep k false = k

pub record Matched (from_ to_ : ℕ) (ts rest : List Sign) : Type 0 where
  pub signs : List Sign
  pub split : ts ≡ signs ++ rest
  pub close : (more : List Sign) → Closes to_ more → Closes from_ (signs ++ more)

no_match : (k : ℕ) {ts rest : List Sign} → ts ≡ rest → Matched k k ts rest
no_match k e = record { signs = []; split = e; close = λ more c. c }

then_match : {i j k : ℕ} {ts mid rest : List Sign} → Matched i j ts mid → Matched j k mid rest → Matched i k ts rest
then_match {i} {rest = rest} a b = record {
  signs = a.signs ++ b.signs;
  split = a.split ∙ ap (λ l. a.signs ++ l) b.split ∙ sym (append_assoc a.signs b.signs rest);
  close = λ more c. subst (Closes i) (sym (append_assoc a.signs b.signs more)) (a.close (b.signs ++ more) (b.close more c));
}

one_match : (k : ℕ) {ts rest : List Sign} (s : Sign) → is_of false plain_mark s ≡ true → ts ≡ s ∷ rest → Matched k k ts rest
one_match k s h e = record { signs = s ∷ []; split = e; close = λ more c. another h c }

some_same : (i j : Bool) (q : Option Bool) → staying i q ≡ Some j → (q ≡ Some i) × (i ≡ j)
some_same true true (Some true) e = (refl, refl)
some_same false false (Some false) e = (refl, refl)
some_same true j (Some false) e = absurd (cc)
some_same false j (Some true) e = absurd (cc)
some_same i j None e = absurd (cc)
some_same true false (Some true) e = absurd (cc)
some_same false true (Some false) e = absurd (cc)

agree : (j : Bool) (p q : Option Bool) → agreeing p q ≡ Some j → (p ≡ Some j) × (q ≡ Some j)
agree j None q e = absurd (cc)
agree j (Some i) q e = let s = some_same i j q e in (ap Some s.1, s.0 ∙ ap Some s.1)

go_on : (j : Bool) (p : Option Bool) (g : Bool → Option Bool) → onward p g ≡ Some j → (i : Bool) × (p ≡ Some i) × (g i ≡ Some j)
go_on j None g e = absurd (cc)
go_on j (Some i) g e = (i, refl, e)

mark_match : (k : ℕ) → k < most_levels → (i o : Bool) (m : Mark) {ts rest : List Sign} → by_mark i m ≡ Some o → ts ≡ token.Mark m ∷ rest → Matched (deep k i) (deep k o) ts rest
mark_match k h false true mark.Open e d = record { signs = token.Mark mark.Open ∷ []; split = d; close = λ more c. opens h c }
mark_match k h true false mark.Close e d = record { signs = token.Mark mark.Close ∷ []; split = d; close = λ more c. closes c }
mark_match k h false false mark.Open e d = absurd (cc)
mark_match k h true true mark.Close e d = absurd (cc)
mark_match k h i o m {ts} {rest} e d = by_plain (plain_mark m) refl e where
  by_plain : (b : Bool) → plain_mark m ≡ b → (if b then Some i else None) ≡ Some o → Matched (deep k i) (deep k o) ts rest
  by_plain true p q = let s : i ≡ o = cc in subst (λ x. Matched (deep k i) (deep k x) ts rest) s (one_match (deep k i) (token.Mark m) p d)
  by_plain false p q = absurd (cc)

abbrev Matches : {A : Type 0} → ℕ → ℕ → Relation Role A → Type 0
Matches {A} i k S = (ts : List Sign) (a : A) (us : List (Use Role)) (rest : List Sign) → S ts a us rest → Matched i k ts rest

perhaps_match : {A : Type 0} (k : ℕ) (S : Relation Role A) (near : Bool) (h : Kind → Bool) → Matches k k S → Matches k k (Perhaps S near h)
perhaps_match k S near h m ts None us rest d = no_match k d.0.tokens
perhaps_match k S near h m ts (Some a) us rest d = m ts a us rest d

each_match : {A : Type 0} (k : ℕ) (S : Relation Role A) (near : Bool) (h : Kind → Bool) → Matches k k S → Matches k k (Each S near h)
each_match k S near h m ts [] us rest d = no_match k d.0.tokens
each_match k S near h m ts (a ∷ l) us rest d = then_match (m ts a d.front d.mid d.first) (each_match k S near h m d.mid l d.back rest d.second)

module _ (n k : ℕ) (few : k < most_levels) (low : (i : Bool) (s : Sort) → inner_sort s ≡ true → Matches (deep k i) (deep k i) (below n s)) where
  match_of : {A : Type 0} (f : Phrase A) (i o : Bool) → open_behind f i ≡ Some o → Matches (deep k i) (deep k o) (Spells heads (room n) (below n) f)
  match_of (sign m) i o e ts a us rest d = mark_match k few i o m e d.tokens
  match_of (script_word w) i o e ts a us rest d = absurd (cc)
  match_of (word r) i o e ts a us rest d = let s : i ≡ o = cc in subst (λ x. Matched (deep k i) (deep k x) ts rest) s (one_match (deep k i) (token.Word a d.script) refl d.tokens)
  match_of number i o e ts a us rest d = absurd (cc)
  match_of nought i o e ts a us rest d = absurd (cc)
  match_of find_word i o e ts a us rest d = absurd (cc)
  match_of (unnamed r) i o e ts a us rest d = absurd (cc)
  match_of other i o e ts a us rest d = absurd (cc)
  match_of (note r) i o e ts a us rest d = let s : i ≡ o = cc in subst (λ x. Matched (deep k i) (deep k x) ts rest) s (no_match (deep k i) d.1.tokens)
  match_of (both f g) i o e ts a us rest d =
      let w = go_on o (open_behind f i) (open_behind g) e in
      then_match (match_of f i w.0 w.1 ts a.0 d.front d.mid d.first) (match_of g w.0 o w.2 d.mid a.1 d.back rest d.second)
  match_of (may near f) i o e ts a us rest d =
      let w = some_same i o (open_behind f i) e in
      subst (λ x. Matched (deep k i) (deep k x) ts rest) w.1 (perhaps_match (deep k i) (Spells heads (room n) (below n) f) near (starts heads f) (match_of f i i w.0) ts a us rest d)
  match_of (many near f) i o e ts a us rest d =
      let w = some_same i o (open_behind f i) e in
      subst (λ x. Matched (deep k i) (deep k x) ts rest) w.1 (each_match (deep k i) (Spells heads (room n) (below n) f) near (starts heads f) (match_of f i i w.0) ts a us rest d)
  match_of (either f g) i o e ts a us rest d =
      let w = agree o (open_behind f i) (open_behind g i) e in
      elim d as (λ _. Matched (deep k i) (deep k o) ts rest) [
        | inl x ↦ match_of f i o w.0 ts a us rest x
        | inr x ↦ match_of g i o w.1 ts a us rest x.1
      ]
  match_of (made v f) i o e ts a us rest d = match_of f i o e ts d.0 us rest d.1
  match_of (level f) i o e ts a us rest d = match_of f i o e ts a us rest d.1
  match_of (deeper s) i o e ts a us rest d = by_inner (inner_sort s) refl e where
    by_inner : (b : Bool) → inner_sort s ≡ b → (if b then Some i else None) ≡ Some o → Matched (deep k i) (deep k o) ts rest
    by_inner true h f = let same : i ≡ o = cc in subst (λ x. Matched (deep k i) (deep k x) ts rest) same (low i s h ts a us rest d)
    by_inner false h f = absurd (cc)

matched_rows : (s : Sort) → inner_sort s ≡ true → open_behind (rule s) false ≡ Some false
matched_rows sort.Term e = refl
matched_rows sort.Conjunction e = refl
matched_rows sort.Primary e = refl
matched_rows sort.Unequal e = refl
matched_rows sort.Arguments e = refl
matched_rows sort.Subscript e = refl
matched_rows sort.Parentheses e = refl
matched_rows sort.Cells e = refl
matched_rows sort.OneCell e = refl
matched_rows s e = absurd (cc)

sorts_match : (n k : ℕ) → k + n < most_levels → (s : Sort) → inner_sort s ≡ true → Matches k k (IsSort heads rule n s)
unfolding IsSort
sorts_match zero k h s e = match_of zero k (omega arith) (λ i z f ts t us rest d. absurd d) (rule s) false false (matched_rows s e)
sorts_match (suc n) k h s e =
    match_of (suc n) k (omega arith) (elim [ true ↦ λ z f. sorts_match n (suc k) (omega arith) z f | false ↦ λ z f. sorts_match n k (omega arith) z f ]) (rule s) false false (matched_rows s e)

matched_below : (n k : ℕ) → k + n < most_levels → (s : Sort) → inner_sort s ≡ true → Matches k k (below n s)
matched_below zero k h s e ts t us rest d = absurd d
matched_below (suc n) k h s e ts t us rest d = sorts_match n k (omega arith) s e ts t us rest d

-- a form that opens no parenthesis by itself, where none is open
pub match_in : {n : ℕ} {A : Type 0} (f : Phrase A) → n < most_levels → open_behind f false ≡ Some false → {ts rest : List Sign} → Is n f ts rest → Matched 0 0 ts rest
match_in {n} f h e {ts} {rest} x = match_of n 0 (omega arith) low f false false e ts x.value x.uses rest x.spelled where
  low : (i : Bool) (z : Sort) → inner_sort z ≡ true → Matches (deep 0 i) (deep 0 i) (below n z)
  low true z g ts t us rest d = one n h z g ts t us rest d where
    one : (m : ℕ) → m < most_levels → (z : Sort) → inner_sort z ≡ true → Matches 1 1 (below m z)
    one zero h z g ts t us rest d = absurd d
    one (suc m) h z g ts t us rest d = sorts_match m 1 (omega arith) z g ts t us rest d
  low false z g ts t us rest d = matched_below n 0 (omega arith) z g ts t us rest d
