-- What is spelled is read, where the next token always tells how a phrase goes on.
use Rattle.std.proofs.Common.{◌≡◌, ℕ, zero, suc, ◌<◌, ◌≤◌, Bool, true, false, ◌&&◌, ◌||◌, not, ◌⊎◌, inl, inr, IsTrue, List, [], ◌∷◌, length, refl, ap, sym, ◌∙◌, arith, subst, Option, Some, None, slice_index_or}
use Rattle.std.proofs.lemmas.Bool.Decides.{nat_tests}
use Rattle.std.proofs.lemmas.Bool.{not-false, false_from_ne_true, not-true}
use Rattle.cv_syntax_trees.proofs.lists.Tests.{or_first, or_second, and_first, and_second}
use Rattle.cv_syntax_trees.specs.Tree.{Tree}
use Rattle.cv_parse_notation.specs.declared.script.ScriptWord.{ScriptWord}
use Rattle.cv_parse_notation.specs.declared.script.ScriptWord.TheVariants.{Plain}
use Rattle.cv_parse_notation.specs.declared.sign.Mark.{Mark}
use Rattle.cv_parse_notation.specs.declared.sign.Mark.TheVariants.{Proof}
use Rattle.cv_parse_notation.specs.declared.sign.Sign.{Sign}
use Rattle.cv_parse_notation.specs.declared.sign.Sign.TheVariants as token
use Rattle.cv_parse_notation.specs.Marks.{mark_code, every_mark, mark_of_code, mark_code_below, same_mark}
use Rattle.cv_parse_notation.specs.ScriptWords.{word_code, every_word, word_of_code, word_code_below, same_word}
use Rattle.cv_parse_notation.specs.Form.{Form, sign, script_word, word, number, nought, find_word, unnamed, other, note, both, may, many, either, made, level, deeper}
use Rattle.cv_parse_notation.specs.Spells.{Kind, AWord, ANumber, Zero, AFind, AnUnnamed, AMark, kind_of, number_kind, is_mark, is_script_word, is_word, is_zero, is_find, is_unnamed, is_other, is_number, starts, starts_both, next_is, may_vanish, Use, used, IsToken, IsWord, IsScriptWord, Follow, Perhaps, Each, Spells}
use Rattle.cv_parse_notation.specs.Reads.{Read, Reader, ◌>>=◌, found, pick, no_syntax, no_level, read_sign, read_script_word, read_word, read_number, read_nought, read_find, read_unnamed, read_other, nothing, joined, one_more, mapped, read_many, reads}
use Rattle.cv_parse_notation.specs.Fits.{goes_on, all_marks, all_words, all_kinds, apart, within, fits}
use Rattle.cv_parse_notation.proofs.Lengths.{toll, lengths}

marks_in : (ms : List Mark) (p : Kind → Bool) → all_marks ms p ≡ true → (c : ℕ) (d : Mark) → c < length ms → p (AMark (slice_index_or ms c d)) ≡ true
marks_in [] p h c d l = absurd (omega arith)
marks_in (m ∷ ms) p h zero d l = and_first (p (AMark m)) (all_marks ms p) h
marks_in (m ∷ ms) p h (suc c) d l = marks_in ms p (and_second (p (AMark m)) (all_marks ms p) h) c d (omega arith)

words_in : (ws : List ScriptWord) (p : Kind → Bool) → all_words ws p ≡ true → (c : ℕ) (d : ScriptWord) → c < length ws → p (AWord (slice_index_or ws c d)) ≡ true
words_in [] p h c d l = absurd (omega arith)
words_in (w ∷ ws) p h zero d l = and_first (p (AWord w)) (all_words ws p) h
words_in (w ∷ ws) p h (suc c) d l = words_in ws p (and_second (p (AWord w)) (all_words ws p) h) c d (omega arith)

kind_in : (p : Kind → Bool) → all_kinds p ≡ true → (k : Kind) → p k ≡ true
kind_in p h (AWord w) = subst (λ j. p (AWord j) ≡ true) (word_of_code w) (words_in every_word p (and_first _ _ h) (word_code w) Plain (word_code_below w))
kind_in p h ANumber = and_first _ _ (and_second (all_words every_word p) _ h)
kind_in p h Zero = and_first _ _ (and_second (p ANumber) _ (and_second (all_words every_word p) _ h))
kind_in p h AFind = and_first _ _ (and_second (p Zero) _ (and_second (p ANumber) _ (and_second (all_words every_word p) _ h)))
kind_in p h AnUnnamed = and_first _ _ (and_second (p AFind) _ (and_second (p Zero) _ (and_second (p ANumber) _ (and_second (all_words every_word p) _ h))))
kind_in p h (AMark m) =
    let i = and_second (p AnUnnamed) _ (and_second (p AFind) _ (and_second (p Zero) _ (and_second (p ANumber) _ (and_second (all_words every_word p) _ h)))) in
    subst (λ j. p (AMark j) ≡ true) (mark_of_code m) (marks_in every_mark p i (mark_code m) Proof (mark_code_below m))

nand : (a b : Bool) → not (a && b) ≡ true → a ≡ true → b ≡ false
nand true true h e = absurd (cc)
nand true false h e = refl
nand false b h e = absurd (cc)

pub apart_next : (p q : Kind → Bool) → apart p q ≡ true → (ts : List Sign) → next_is p ts ≡ true → next_is q ts ≡ false
apart_next p q h [] e = absurd (cc)
apart_next p q h (t ∷ ts) e = nand (p (kind_of t)) (q (kind_of t)) (kind_in (λ k. not (p k && q k)) h (kind_of t)) e

pub within_next : (p q : Kind → Bool) → within p q ≡ true → (ts : List Sign) → next_is p ts ≡ true → next_is q ts ≡ true
within_next p q h [] e = absurd (cc)
within_next p q h (t ∷ ts) e = not-false (q (kind_of t)) (nand (p (kind_of t)) (not (q (kind_of t))) (kind_in (λ k. not (p k && not (q k))) h (kind_of t)) e)

pub outside_next : (p q : Kind → Bool) → within p q ≡ true → (ts : List Sign) → next_is q ts ≡ false → next_is p ts ≡ false
outside_next p q h ts e = false_from_ne_true (next_is p ts) (λ i. let j = within_next p q h ts i in cc)

pub next_first : (p q : Kind → Bool) (ts : List Sign) → next_is p ts ≡ true → next_is (λ k. p k || q k) ts ≡ true
next_first p q [] h = h
next_first p q (t ∷ ts) h = first (p (kind_of t)) (q (kind_of t)) h
  where
    first : (a b : Bool) → a ≡ true → (a || b) ≡ true
    first true b h = refl
    first false b h = absurd (cc)

pub next_second : (p q : Kind → Bool) (ts : List Sign) → next_is q ts ≡ true → next_is (λ k. p k || q k) ts ≡ true
next_second p q [] h = h
next_second p q (t ∷ ts) h = second (p (kind_of t)) (q (kind_of t)) h
  where
    second : (a b : Bool) → b ≡ true → (a || b) ≡ true
    second true b h = refl
    second false b h = h

no_first : (p q : Kind → Bool) (ts : List Sign) → next_is (λ k. p k || q k) ts ≡ false → next_is p ts ≡ false
no_first p q [] h = h
no_first p q (t ∷ ts) h = or_first (p (kind_of t)) (q (kind_of t)) h

no_second : (p q : Kind → Bool) (ts : List Sign) → next_is (λ k. p k || q k) ts ≡ false → next_is q ts ≡ false
no_second p q [] h = h
no_second p q (t ∷ ts) h = or_second (p (kind_of t)) (q (kind_of t)) h

no_and : (v : Bool) (p : Kind → Bool) (ts : List Sign) → v ≡ true → next_is (λ k. v && p k) ts ≡ false → next_is p ts ≡ false
no_and true p [] e h = h
no_and true p (t ∷ ts) e h = h
no_and false p ts e h = absurd (cc)

same_self : (m : Mark) → same_mark m m ≡ true
same_self m = grind (arith, nat_tests)

script_self : (w : ScriptWord) → same_word w w ≡ true
script_self w = grind (arith, nat_tests)

number_self : (v : ℕ) → is_number (number_kind v) ≡ true
number_self zero = refl
number_self (suc v) = refl

-- how a phrase begins
abbrev Front : (Kind → Bool) → Bool → List Sign → List Sign → Type 0
Front p v ts rest = (next_is p ts ≡ true) ⊎ ((ts ≡ rest) × (v ≡ true))

token_front : {R : Type 0} (p : Kind → Bool) (t : Sign) (u us : List (Use R)) (ts rest : List Sign) → p (kind_of t) ≡ true → IsToken t u ts us rest → next_is p ts ≡ true
token_front p t u us ts rest e d = subst (λ xs. next_is p xs ≡ true) (sym d.tokens) e

word_front : {R : Type 0} (x : ℕ) (u us : List (Use R)) (ts rest : List Sign) → IsWord x u ts us rest → next_is is_word ts ≡ true
word_front x u us ts rest d = subst (λ xs. next_is is_word xs ≡ true) (sym d.tokens) refl

script_word_front : {R : Type 0} (w : ScriptWord) (us : List (Use R)) (ts rest : List Sign) → IsScriptWord w ts us rest → next_is (is_script_word w) ts ≡ true
script_word_front w us ts rest d = subst (λ xs. next_is (is_script_word w) xs ≡ true) (sym d.tokens) (script_self w)

perhaps_front : {R A : Type 0} (P : List Sign → A → List (Use R) → List Sign → Type 0) (near : Bool) (k : Kind → Bool) (v : Bool) → ((ts : List Sign) (a : A) (us : List (Use R)) (rest : List Sign) → P ts a us rest → Front k v ts rest) → (ts : List Sign) (o : Option A) (us : List (Use R)) (rest : List Sign) → Perhaps P near k ts o us rest → Front k true ts rest
perhaps_front P near k v s ts None us rest d = inr (d.0.tokens, refl)
perhaps_front P near k v s ts (Some a) us rest d = elim (s ts a us rest d) [ inl e ↦ inl e | inr e ↦ inr (e.0, refl) ]

moved_front : (p : Kind → Bool) (v : Bool) (ts mid rest : List Sign) → ts ≡ mid → Front p v mid rest → Front p v ts rest
moved_front p v ts mid rest e f = subst (λ xs. Front p v xs rest) (sym e) f

each_front : {R A : Type 0} (P : List Sign → A → List (Use R) → List Sign → Type 0) (near : Bool) (k : Kind → Bool) (v : Bool) → ((ts : List Sign) (a : A) (us : List (Use R)) (rest : List Sign) → P ts a us rest → Front k v ts rest) → (ts : List Sign) (l : List A) (us : List (Use R)) (rest : List Sign) → Each P near k ts l us rest → Front k true ts rest
each_front P near k v s ts [] us rest d = inr (d.0.tokens, refl)
each_front P near k v s ts (a ∷ l) us rest d = elim (s ts a d.front d.mid d.first) [ inl e ↦ inl e | inr e ↦ moved_front k true ts d.mid rest e.0 (each_front P near k v s d.mid l d.back rest d.second) ]

pub first_both : (v : Bool) (p q : Kind → Bool) (ts : List Sign) → next_is p ts ≡ true → next_is (starts_both v p q) ts ≡ true
first_both true p q ts h = next_first p q ts h
first_both false p q ts h = h

pub second_both : (v : Bool) (p q : Kind → Bool) (ts : List Sign) → v ≡ true → next_is q ts ≡ true → next_is (starts_both v p q) ts ≡ true
second_both true p q ts e h = next_second p q ts h
second_both false p q ts e h = absurd (cc)

both_front : (p q : Kind → Bool) (v w : Bool) (ts mid rest : List Sign) → Front p v ts mid → Front q w mid rest → Front (starts_both v p q) (v && w) ts rest
both_front p q v w ts mid rest (inl e) f = inl (first_both v p q ts e)
both_front p q v w ts mid rest (inr e) (inl f) = inl (second_both v p q ts e.1 (subst (λ xs. next_is q xs ≡ true) (sym e.0) f))
both_front p q v w ts mid rest (inr e) (inr f) = inr (e.0 ∙ f.0, and_true v w e.1 f.1)
  where
    and_true : (a b : Bool) → a ≡ true → b ≡ true → (a && b) ≡ true
    and_true true b h i = i
    and_true false b h i = absurd (cc)

either_first : (p q : Kind → Bool) (v w : Bool) (ts rest : List Sign) → Front p v ts rest → Front (λ k. p k || q k) (v || w) ts rest
either_first p q v w ts rest (inl e) = inl (next_first p q ts e)
either_first p q v w ts rest (inr e) = inr (e.0, or_true v w e.1)
  where
    or_true : (a b : Bool) → a ≡ true → (a || b) ≡ true
    or_true true b h = refl
    or_true false b h = absurd (cc)

either_second : (p q : Kind → Bool) (v w : Bool) (ts rest : List Sign) → Front q w ts rest → Front (λ k. p k || q k) (v || w) ts rest
either_second p q v w ts rest (inl e) = inl (next_second p q ts e)
either_second p q v w ts rest (inr e) = inr (e.0, or_true v w e.1)
  where
    or_true : (a b : Bool) → b ≡ true → (a || b) ≡ true
    or_true true b h = refl
    or_true false b h = h

module _ {R σ : Type 0} (h : σ → Kind → Bool) (room : Bool) (below : σ → List Sign → Tree → List (Use R) → List Sign → Type 0) (begins : (s : σ) (ts : List Sign) (t : Tree) (us : List (Use R)) (rest : List Sign) → below s ts t us rest → next_is (h s) ts ≡ true) where
  pub front : {A : Type 0} (f : Form R σ A) (ts : List Sign) (a : A) (us : List (Use R)) (rest : List Sign) → Spells h room below f ts a us rest → Front (starts h f) (may_vanish f) ts rest
  front (sign m) ts a us rest d = inl (token_front (is_mark m) (token.Mark m) [] us ts rest (same_self m) d)
  front (script_word w) ts a us rest d = inl (script_word_front w us ts rest d)
  front (word r) ts a us rest d = inl (word_front a (used r a ts) us ts rest d)
  front number ts a us rest d = inl (token_front is_number (token.Number a) [] us ts rest (number_self a) d)
  front nought ts a us rest d = inl (token_front is_zero (token.Number 0) [] us ts rest refl d)
  front find_word ts a us rest d = inl (token_front is_find (token.Find a) [] us ts rest refl d)
  front (unnamed r) ts a us rest d = inl (token_front is_unnamed (token.Unnamed a) (used r a ts) us ts rest refl d)
  front other ts a us rest d = inl (token_front is_other d.0 [] us ts rest d.1 d.2)
  front (note r) ts a us rest d = inr (d.1.tokens, refl)
  front (both f g) ts a us rest d = both_front (starts h f) (starts h g) (may_vanish f) (may_vanish g) ts d.mid rest (front f ts a.0 d.front d.mid d.first) (front g d.mid a.1 d.back rest d.second)
  front (may near f) ts a us rest d = perhaps_front (Spells h room below f) near (starts h f) (may_vanish f) (front f) ts a us rest d
  front (many near f) ts a us rest d = each_front (Spells h room below f) near (starts h f) (may_vanish f) (front f) ts a us rest d
  front (either f g) ts a us rest d = elim d as (λ _. Front (λ k. starts h f k || starts h g k) (may_vanish f || may_vanish g) ts rest) [
    | inl e ↦ either_first (starts h f) (starts h g) (may_vanish f) (may_vanish g) ts rest (front f ts a us rest e)
    | inr e ↦ either_second (starts h f) (starts h g) (may_vanish f) (may_vanish g) ts rest (front g ts a us rest e.1)
  ]
  front (made v f) ts a us rest d = front f ts d.0 us rest d.1
  front (level f) ts a us rest d = front f ts a us rest d.1
  front (deeper s) ts a us rest d = inl (begins s ts a us rest d)

  -- a phrase that has a token begins with it
  pub begins_with : {A : Type 0} (f : Form R σ A) → may_vanish f ≡ false → (ts : List Sign) (a : A) (us : List (Use R)) (rest : List Sign) → Spells h room below f ts a us rest → next_is (starts h f) ts ≡ true
  begins_with f v ts a us rest d = elim (front f ts a us rest d) [ inl e ↦ e | inr e ↦ absurd (let x = e.1 in cc) ]

none : (ts : List Sign) → next_is (λ k. false) ts ≡ false
none [] = refl
none (t ∷ ts) = refl

-- a reader reads what is in a relation, before what can't go on
abbrev Complete : {R A : Type 0} → (List Sign → A → List (Use R) → List Sign → Type 0) → (Kind → Bool) → Reader R A → Type 0
Complete {R} {A} P t p = (ts : List Sign) (a : A) (us : List (Use R)) (rest : List Sign) → P ts a us rest → next_is t rest ≡ false → p ts ≡ found a us rest

picked : {R A : Type 0} (b : Bool) (p q : Reader R A) (ts : List Sign) (y : Read R A) → b ≡ true → p ts ≡ y → pick b p q ts ≡ y
picked true p q ts y e h = h
picked false p q ts y e h = absurd (cc)

passed : {R A : Type 0} (b : Bool) (p q : Reader R A) (ts : List Sign) (y : Read R A) → b ≡ false → q ts ≡ y → pick b p q ts ≡ y
passed true p q ts y e h = absurd (cc)
passed false p q ts y e h = h

sign_complete : {R : Type 0} (m : Mark) → Complete {R = R} {A = Unit {0}} (λ ts a us rest. IsToken (token.Mark m) [] ts us rest) (λ k. false) (read_sign m)
sign_complete m ts a us rest d n =
    ap (read_sign m) d.tokens ∙ (picked (same_mark m m) (λ vs. found tt [] rest) no_syntax (token.Mark m ∷ rest) (found tt [] rest) (same_self m) refl ∙ ap (λ u. found a u rest) (sym d.uses))

script_word_complete : {R : Type 0} (w : ScriptWord) → Complete {R = R} {A = Unit {0}} (λ ts a us rest. IsScriptWord w ts us rest) (λ k. false) (read_script_word w)
script_word_complete w ts a us rest d n =
    ap (read_script_word w) d.tokens ∙ (picked (same_word w w) (λ vs. found tt [] rest) no_syntax (token.Word d.text w ∷ rest) (found tt [] rest) (script_self w) refl ∙ ap (λ u. found a u rest) (sym d.uses))

pub stops : (near : Bool) (k : Kind → Bool) (ts rest : List Sign) → ts ≡ rest → (IsTrue near → next_is k ts ≡ false) → next_is (λ x. not near && k x) rest ≡ false → next_is k ts ≡ false
stops true k ts rest e s n = s refl
stops false k ts rest e s n = subst (λ xs. next_is k xs ≡ false) (sym e) (no_and true k rest refl n)

may_complete : {R A : Type 0} (p : Reader R A) (P : List Sign → A → List (Use R) → List Sign → Type 0) (near : Bool) (k t : Kind → Bool) → Complete P t p → ((ts : List Sign) (a : A) (us : List (Use R)) (rest : List Sign) → P ts a us rest → next_is k ts ≡ true) → Complete (Perhaps P near k) (λ x. (not near && k x) || t x) (λ ts. pick (next_is k ts) (λ us. p us >>= mapped Some) (nothing None) ts)
may_complete p P near k t c b ts (Some a) us rest d n = picked (next_is k ts) (λ us. p us >>= mapped Some) (nothing None) ts (found (Some a) us rest) (b ts a us rest d) (ap (λ r. r >>= mapped Some) (c ts a us rest d (no_second (λ x. not near && k x) t rest n)))
may_complete {R} {A} p P near k t c b ts None us rest d n =
    passed (next_is k ts) (λ us. p us >>= mapped Some) (nothing None) ts (found None us rest) (stops near k ts rest d.0.tokens d.1 (no_first (λ x. not near && k x) t rest n)) (
    ap (λ xs. found None [] xs) d.0.tokens ∙ ap (λ u. found None u rest) (sym d.0.uses)
    )

both_complete : {R A B : Type 0} (p : Reader R A) (q : Reader R B) (P : List Sign → A → List (Use R) → List Sign → Type 0) (Q : List Sign → B → List (Use R) → List Sign → Type 0) (t u v : Kind → Bool) (w : Bool) → Complete P t p → Complete Q u q → ((ts : List Sign) (b : B) (us : List (Use R)) (rest : List Sign) → Q ts b us rest → Front v w ts rest) → apart v t ≡ true → Complete (λ ts a us rest. Follow P Q ts a.0 a.1 us rest) (λ k. u k || (w && t k)) (λ ts. p ts >>= λ x. q x.rest >>= joined x)
both_complete {R} {A} {B} p q P Q t u v w c e f z ts a us rest d n =
    ap (λ (r : Read R A). r >>= λ x. q x.rest >>= joined x) (c ts a.0 d.front d.mid d.first (turns (f d.mid a.1 d.back rest d.second)))
    ∙ (ap (λ (r : Read R B). r >>= joined (record { value = a.0; uses = d.front; rest = d.mid })) (e d.mid a.1 d.back rest d.second (no_first u (λ k. w && t k) rest n))
    ∙ ap (λ x. found a x rest) (sym d.uses))
  where
    turns : Front v w d.mid rest → next_is t d.mid ≡ false
    turns (inl y) = apart_next v t z d.mid y
    turns (inr y) = subst (λ xs. next_is t xs ≡ false) (sym y.0) (no_and w t rest y.1 (no_second u (λ k. w && t k) rest n))

module _ {R A : Type 0} (p : Reader R A) (P : List Sign → A → List (Use R) → List Sign → Type 0) (near : Bool) (k t : Kind → Bool) (c : Complete P t p) (b : (ts : List Sign) (a : A) (us : List (Use R)) (rest : List Sign) → P ts a us rest → next_is k ts ≡ true) (shorter : (ts : List Sign) (a : A) (us : List (Use R)) (rest : List Sign) → P ts a us rest → length rest < length ts) (z : apart k t ≡ true) where
  ends_each : (ts : List Sign) (l : List A) (us : List (Use R)) (rest : List Sign) → Each P near k ts l us rest → next_is t rest ≡ false → next_is t ts ≡ false
  ends_each ts [] us rest d n = subst (λ xs. next_is t xs ≡ false) (sym d.0.tokens) n
  ends_each ts (a ∷ l) us rest d n = apart_next k t z ts (b ts a d.front d.mid d.first)

  many_complete : (n : ℕ) (ts : List Sign) (l : List A) (us : List (Use R)) (rest : List Sign) → length ts ≤ n → Each P near k ts l us rest → next_is (λ x. (not near && k x) || t x) rest ≡ false → read_many k p n ts ≡ found l us rest
  many_complete zero ts [] us rest m d e = ap (λ xs. found [] [] xs) d.0.tokens ∙ ap (λ u. found [] u rest) (sym d.0.uses)
  many_complete (suc n) ts [] us rest m d e =
      passed (next_is k ts) (λ us. p us >>= λ x. read_many k p n x.rest >>= one_more x) (nothing []) ts (found [] us rest) (stops near k ts rest d.0.tokens d.1 (no_first (λ x. not near && k x) t rest e)) (
      ap (λ xs. found [] [] xs) d.0.tokens ∙ ap (λ u. found [] u rest) (sym d.0.uses)
      )
  many_complete zero ts (a ∷ l) us rest m d e = absurd (omega (arith, shorter ts a d.front d.mid d.first))
  many_complete (suc n) ts (a ∷ l) us rest m d e =
      let i = shorter ts a d.front d.mid d.first in
      picked (next_is k ts) (λ us. p us >>= λ x. read_many k p n x.rest >>= one_more x) (nothing []) ts (found (a ∷ l) us rest) (b ts a d.front d.mid d.first) (
      ap (λ (r : Read R A). r >>= λ x. read_many k p n x.rest >>= one_more x) (c ts a d.front d.mid d.first (ends_each d.mid l d.back rest d.second (no_second (λ x. not near && k x) t rest e)))
      ∙ (ap (λ (r : Read R (List A)). r >>= one_more (record { value = a; uses = d.front; rest = d.mid })) (many_complete n d.mid l d.back rest (omega arith) d.second e)
      ∙ ap (λ x. found (a ∷ l) x rest) (sym d.uses))
      )

either_complete : {R A : Type 0} (p q : Reader R A) (P Q : List Sign → A → List (Use R) → List Sign → Type 0) (k t u : Kind → Bool) → Complete P t p → Complete Q u q → ((ts : List Sign) (a : A) (us : List (Use R)) (rest : List Sign) → P ts a us rest → next_is k ts ≡ true) → Complete (λ ts a us rest. P ts a us rest ⊎ ((next_is k ts ≡ false) × Q ts a us rest)) (λ x. t x || u x) (λ ts. pick (next_is k ts) p q ts)
either_complete p q P Q k t u c e b ts a us rest (inl d) n = picked (next_is k ts) p q ts (found a us rest) (b ts a us rest d) (c ts a us rest d (no_first t u rest n))
either_complete p q P Q k t u c e b ts a us rest (inr d) n = passed (next_is k ts) p q ts (found a us rest) d.0 (e ts a us rest d.1 (no_second t u rest n))

module _ {R σ : Type 0} (h g : σ → Kind → Bool) (room : Bool) (below : σ → List Sign → Tree → List (Use R) → List Sign → Type 0) (shorter : (s : σ) (ts : List Sign) (t : Tree) (us : List (Use R)) (rest : List Sign) → below s ts t us rest → length rest < length ts) (begins : (s : σ) (ts : List Sign) (t : Tree) (us : List (Use R)) (rest : List Sign) → below s ts t us rest → next_is (h s) ts ≡ true) (r : σ → Reader R Tree) (s : (q : σ) → Complete (below q) (g q) (r q)) where
  pub complete : {A : Type 0} (f : Form R σ A) → fits h g f ≡ true → (ts : List Sign) (a : A) (us : List (Use R)) (rest : List Sign) → Spells h room below f ts a us rest → next_is (goes_on h g f) rest ≡ false → reads h room r f ts ≡ found a us rest
  complete (sign m) w ts a us rest d n = sign_complete m ts a us rest d (none rest)
  complete (script_word v) w ts a us rest d n = script_word_complete v ts a us rest d (none rest)
  complete (word q) w ts a us rest d n = ap (λ xs. read_word q xs) d.tokens ∙ (ap (λ xs. found a (used q a xs) rest) (sym d.tokens) ∙ ap (λ u. found a u rest) (sym d.uses))
  complete number w ts a us rest d n = ap read_number d.tokens ∙ ap (λ u. found a u rest) (sym d.uses)
  complete nought w ts a us rest d n = ap read_nought d.tokens ∙ ap (λ u. found a u rest) (sym d.uses)
  complete find_word w ts a us rest d n = ap read_find d.tokens ∙ ap (λ u. found a u rest) (sym d.uses)
  complete (unnamed q) w ts a us rest d n = ap (λ xs. read_unnamed q xs) d.tokens ∙ (ap (λ xs. found a (used q a xs) rest) (sym d.tokens) ∙ ap (λ u. found a u rest) (sym d.uses))
  complete other w ts a us rest d n = ap read_other d.2.tokens ∙ (picked (is_other (kind_of d.0)) (λ vs. found tt [] rest) no_syntax (d.0 ∷ rest) (found tt [] rest) d.1 refl ∙ ap (λ u. found a u rest) (sym d.2.uses))
  complete (note q) w ts a us rest d n = ap (λ n. found n (used q 0 ts) ts) (sym d.0) ∙ (ap (λ xs. found a (used q 0 ts) xs) d.1.tokens ∙ ap (λ u. found a u rest) (sym d.1.uses))
  complete (both f f') w ts a us rest d n =
      let i = and_second (fits h g f) (fits h g f' && apart (starts h f') (goes_on h g f)) w in
      both_complete (reads h room r f) (reads h room r f') (Spells h room below f) (Spells h room below f') (goes_on h g f) (goes_on h g f') (starts h f') (may_vanish f') (complete f (and_first (fits h g f) _ w)) (complete f' (and_first (fits h g f') _ i)) (front h room below begins f') (and_second (fits h g f') _ i) ts a us rest d n
  complete (may near f) w ts a us rest d n =
      let v = not-true (may_vanish f) (and_second (fits h g f) _ w) in
      may_complete (reads h room r f) (Spells h room below f) near (starts h f) (goes_on h g f) (complete f (and_first (fits h g f) _ w)) (begins_with h room below begins f v) ts a us rest d n
  complete (many near f) w ts a us rest d n =
      let i = and_second (fits h g f) (not (may_vanish f) && apart (starts h f) (goes_on h g f)) w in
      let v = not-true (may_vanish f) (and_first (not (may_vanish f)) _ i) in
      many_complete (reads h room r f) (Spells h room below f) near (starts h f) (goes_on h g f) (complete f (and_first (fits h g f) _ w)) (begins_with h room below begins f v) (λ ts a us rest d. let k = lengths h room below shorter f ts a us rest d in let j = ap toll v in omega arith) (and_second (not (may_vanish f)) _ i) (length ts) ts a us rest (omega arith) d n
  complete (either f f') w ts a us rest d n =
      let i = and_second (fits h g f) (fits h g f' && not (may_vanish f)) w in
      let v = not-true (may_vanish f) (and_second (fits h g f') _ i) in
      either_complete (reads h room r f) (reads h room r f') (Spells h room below f) (Spells h room below f') (starts h f) (goes_on h g f) (goes_on h g f') (complete f (and_first (fits h g f) _ w)) (complete f' (and_first (fits h g f') _ i)) (begins_with h room below begins f v) ts a us rest d n
  complete (made v f) w ts a us rest d n = ap (λ y. y >>= mapped v) (complete f w ts d.0 us rest d.1 n) ∙ ap (λ b. found b us rest) d.2
  complete (level f) w ts a us rest d n = picked room (reads h room r f) (pick (next_is (starts h f) ts) no_level no_syntax) ts (found a us rest) d.0 (complete f w ts a us rest d.1 n)
  complete (deeper q) w ts a us rest d n = s q ts a us rest d n
