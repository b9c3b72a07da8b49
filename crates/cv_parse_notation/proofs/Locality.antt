-- Reading looks at no token past the one where it ends or fails.
use Rattle.std.proofs.Common.{◌≡◌, ℕ, zero, suc, ◌<◌, ◌≤◌, Bool, true, false, not, List, [], ◌∷◌, ◌++◌, length, refl, ap, sym, ◌∙◌, arith, subst, Some, None, Ok, Err, append_assoc}
use Rattle.std.proofs.lemmas.Bool.{not-true}
use Rattle.cv_syntax_trees.proofs.lists.Tests.{and_first, and_second}
use Rattle.cv_syntax_trees.specs.Tree.{Tree}
use Rattle.cv_parse_notation.specs.declared.sign.Sign.{Sign}
use Rattle.cv_parse_notation.specs.declared.sign.Sign.TheVariants as token
use Rattle.cv_parse_notation.specs.Form.{Form, sign, script_word, word, number, nought, find_word, unnamed, other, note, both, may, many, either, made, level, deeper}
use Rattle.cv_parse_notation.specs.Spells.{Kind, kind_of, is_mark, is_script_word, is_other, starts, next_is, used, may_vanish, is_steady, IsSort, no_sort}
use Rattle.cv_parse_notation.specs.Reads.{Syntax, Found, Read, Reader, ◌>>=◌, found, pick, no_syntax, no_level, read_sign, read_script_word, read_word, read_number, read_nought, read_find, read_unnamed, read_other, nothing, joined, one_more, mapped, read_many, reads, too_deep, read_sort}
use Rattle.cv_parse_notation.specs.Local.{SameFirst, again, LocalAt}
use Rattle.cv_parse_notation.specs.Fits.{fitting}
use Rattle.cv_parse_notation.proofs.Lengths.{toll, lengths}
use Rattle.cv_parse_notation.proofs.Many.{many_ends, many_more, many_fails}
use Rattle.cv_parse_notation.proofs.Sorts.{read_is_spelled, shorter, parts}
use Rattle.cv_parse_notation.proofs.Sound.{no_ok, sound}

abbrev pub Local : {R A : Type 0} → Reader R A → Type 0
Local p = (ts : List Sign) → LocalAt p ts (p ts)

pub same_self : (ts : List Sign) → SameFirst ts ts
same_self [] = tt
same_self (t ∷ ts) = refl

pub front_same : (front rest more : List Sign) → SameFirst rest more → SameFirst (front ++ rest) (front ++ more)
front_same [] rest more s = s
front_same (t ∷ ts) rest more s = refl

pub next_same : (p : Kind → Bool) (a b : List Sign) → SameFirst a b → next_is p a ≡ next_is p b
next_same p [] [] s = refl
next_same p (x ∷ xs) (y ∷ ys) s = ap (λ z. p (kind_of z)) s
next_same p [] (y ∷ ys) s = absurd s
next_same p (x ∷ xs) [] s = absurd s

-- readers of one token
data Takes {R A : Type 0} (p : Reader R A) (t : Sign) : Type 0 where
  taken : ((ts : List Sign) → (x : Found R A) × (p (t ∷ ts) ≡ Ok x) × (x.rest ≡ ts)) → Takes p t
  refused : ((ts : List Sign) → p (t ∷ ts) ≡ Err (Syntax (length (t ∷ ts)))) → Takes p t

at_ok : {R A : Type 0} (p : Reader R A) (t : Sign) (ts : List Sign) (r : Read R A) → p (t ∷ ts) ≡ r → ((us : List Sign) → (x : Found R A) × (p (t ∷ us) ≡ Ok x) × (x.rest ≡ us)) → LocalAt p (t ∷ ts) r
at_ok p t ts (Ok x) e f = let y = f ts in let same : y.0 ≡ x = (let i = sym y.1 ∙ e in cc) in (t ∷ [], ap (λ us. t ∷ us) (sym y.2 ∙ ap (λ z. z.rest) same), λ more s. f more)
at_ok p t ts (Err q) e f = let y = f ts in absurd (let i = sym y.1 ∙ e in cc)

at_left : {R A : Type 0} (p : Reader R A) (t : Sign) (ts : List Sign) → ((us : List Sign) → p (t ∷ us) ≡ Err (Syntax (length (t ∷ us)))) → (u : Sign) (us : List Sign) → t ≡ u → p (u ∷ us) ≡ Err (Syntax (length (u ∷ us)))
at_left p t ts f u us e = subst (λ z. p (z ∷ us) ≡ Err (Syntax (length (z ∷ us)))) e (f us)

at_err : {R A : Type 0} (p : Reader R A) (t : Sign) (ts : List Sign) (r : Read R A) → p (t ∷ ts) ≡ r → ((us : List Sign) → p (t ∷ us) ≡ Err (Syntax (length (t ∷ us)))) → LocalAt p (t ∷ ts) r
at_err {R} {A} p t ts r e f = subst (λ z. LocalAt p (t ∷ ts) z) (sym (f ts) ∙ e) ([], t ∷ ts, refl, refl, stays)
  where
    stays : (more : List Sign) → SameFirst (t ∷ ts) more → p more ≡ Err (Syntax (length more))
    stays [] s = absurd s
    stays (u ∷ us) s = at_left p t ts f u us s

one_local : {R A : Type 0} (p : Reader R A) → p [] ≡ Err (Syntax 0) → ((t : Sign) → Takes p t) → Local p
one_local {R} {A} p e f [] = subst (λ z. LocalAt p [] z) (sym e) ([], [], refl, refl, ends)
  where
    ends : (more : List Sign) → SameFirst [] more → p more ≡ Err (Syntax (length more))
    ends [] s = e
    ends (u ∷ us) s = absurd s
one_local p e f (t ∷ ts) = elim (f t) [ taken g ↦ at_ok p t ts (p (t ∷ ts)) refl g | refused g ↦ at_err p t ts (p (t ∷ ts)) refl g ]

sign_takes : {R : Type 0} (b : Bool) (t : Sign) (p : Reader R (Unit {0})) → ((ts : List Sign) → p (t ∷ ts) ≡ pick b (λ us. found tt [] ts) no_syntax (t ∷ ts)) → Takes p t
sign_takes true t p h = taken (λ ts. (record { value = tt; uses = []; rest = ts }, h ts, refl))
sign_takes false t p h = refused h

word_takes : {R : Type 0} (r : R) (t : Sign) → Takes (read_word r) t
word_takes r (token.Word x w) = taken (λ ts. (record { value = x; uses = used r x (token.Word x w ∷ ts); rest = ts }, refl, refl))
word_takes r t = refused (λ ts. refl)

unnamed_takes : {R : Type 0} (r : R) (t : Sign) → Takes (read_unnamed r) t
unnamed_takes r (token.Unnamed x) = taken (λ ts. (record { value = x; uses = used r x (token.Unnamed x ∷ ts); rest = ts }, refl, refl))
unnamed_takes r t = refused (λ ts. refl)

number_takes : {R : Type 0} (t : Sign) → Takes (read_number {R = R}) t
number_takes (token.Number x) = taken (λ ts. (record { value = x; uses = []; rest = ts }, refl, refl))
number_takes t = refused (λ ts. refl)

find_takes : {R : Type 0} (t : Sign) → Takes (read_find {R = R}) t
find_takes (token.Find x) = taken (λ ts. (record { value = x; uses = []; rest = ts }, refl, refl))
find_takes t = refused (λ ts. refl)

nought_takes : {R : Type 0} (t : Sign) → Takes (read_nought {R = R}) t
nought_takes (token.Number zero) = taken (λ ts. (record { value = tt; uses = []; rest = ts }, refl, refl))
nought_takes t = refused (λ ts. refl)

mapped_local : {R A B : Type 0} (p : Reader R A) (v : A → B) (ts : List Sign) (r : Read R A) → LocalAt p ts r → LocalAt (λ us. p us >>= mapped v) ts (r >>= mapped v)
mapped_local p v ts (Ok x) h = (h.0, h.1, λ more s. let y = h.2 more s in (record { value = v y.0.value; uses = y.0.uses; rest = y.0.rest }, ap (λ z. z >>= mapped v) y.1, y.2))
mapped_local p v ts (Err e) h = (h.0, h.1, h.2, h.3, λ more s. ap (λ z. z >>= mapped v) (h.4 more s))

pick_true : {R A : Type 0} (b : Bool) (p q : Reader R A) (ts : List Sign) → b ≡ true → pick b p q ts ≡ p ts
pick_true true p q ts e = refl
pick_true false p q ts e = absurd (cc)

pub pick_false : {R A : Type 0} (b : Bool) (p q : Reader R A) (ts : List Sign) → b ≡ false → pick b p q ts ≡ q ts
pick_false true p q ts e = absurd (cc)
pick_false false p q ts e = refl

-- the test answers the same before other tokens
same_test : (k : Kind → Bool) (ts front rest more : List Sign) (b : Bool) → next_is k ts ≡ b → ts ≡ front ++ rest → SameFirst rest more → next_is k (front ++ more) ≡ b
same_test k ts front rest more b e f s = sym (next_same k (front ++ rest) (front ++ more) (front_same front rest more s)) ∙ (ap (next_is k) (sym f) ∙ e)

picked_local : {R A : Type 0} (k : Kind → Bool) (p q : Reader R A) (ts : List Sign) (r : Read R A) → next_is k ts ≡ true → LocalAt p ts r → LocalAt (λ us. pick (next_is k us) p q us) ts r
picked_local k p q ts (Ok x) e h = (h.0, h.1, λ more s. let y = h.2 more s in (y.0, pick_true (next_is k (h.0 ++ more)) p q (h.0 ++ more) (same_test k ts h.0 x.rest more true e h.1 s) ∙ y.1, y.2))
picked_local k p q ts (Err f) e h = (h.0, h.1, h.2, h.3, λ more s. pick_true (next_is k (h.0 ++ more)) p q (h.0 ++ more) (same_test k ts h.0 h.1 more true e h.2 s) ∙ h.4 more s)

passed_local : {R A : Type 0} (k : Kind → Bool) (p q : Reader R A) (ts : List Sign) (r : Read R A) → next_is k ts ≡ false → LocalAt q ts r → LocalAt (λ us. pick (next_is k us) p q us) ts r
passed_local k p q ts (Ok x) e h = (h.0, h.1, λ more s. let y = h.2 more s in (y.0, pick_false (next_is k (h.0 ++ more)) p q (h.0 ++ more) (same_test k ts h.0 x.rest more false e h.1 s) ∙ y.1, y.2))
passed_local k p q ts (Err f) e h = (h.0, h.1, h.2, h.3, λ more s. pick_false (next_is k (h.0 ++ more)) p q (h.0 ++ more) (same_test k ts h.0 h.1 more false e h.2 s) ∙ h.4 more s)

pick_local : {R A : Type 0} (k : Kind → Bool) (p q : Reader R A) (ts : List Sign) (b : Bool) → next_is k ts ≡ b → LocalAt p ts (p ts) → LocalAt q ts (q ts) → LocalAt (λ us. pick (next_is k us) p q us) ts (pick b p q ts)
pick_local k p q ts true e h i = picked_local k p q ts (p ts) e h
pick_local k p q ts false e h i = passed_local k p q ts (q ts) e i

nothing_local : {R A : Type 0} (a : A) → Local (nothing {R = R} a)
nothing_local a ts = ([], refl, λ more s. (record { value = a; uses = []; rest = more }, refl, refl))

no_syntax_local : {R A : Type 0} → Local (no_syntax {R = R} {A = A})
no_syntax_local ts = ([], ts, refl, refl, λ more s. refl)

no_level_local : {R A : Type 0} → Local (no_level {R = R} {A = A})
no_level_local ts = ([], ts, refl, refl, λ more s. refl)

-- one reader after another
module _ {R A B C : Type 0} (p : Reader R A) (q : Reader R B) (j : Found R A → Found R B → Read R C) (joins : (x : Found R A) (y : Found R B) → (z : Found R C) × (j x y ≡ Ok z) × (z.rest ≡ y.rest)) where
  behind : (ts : List Sign) (x : Found R A) (h : LocalAt p ts (Ok x)) (r : Read R B) → LocalAt q x.rest r → LocalAt (λ us. p us >>= λ y. q y.rest >>= j y) ts (r >>= j x)
  behind ts x h (Err e) i = (h.0 ++ i.0, i.1, h.1 ∙ (ap (λ us. h.0 ++ us) i.2 ∙ sym (append_assoc h.0 i.0 i.1)), i.3, λ more s. fails more s)
    where
      fails : (more : List Sign) → SameFirst i.1 more → (p ((h.0 ++ i.0) ++ more) >>= λ y. q y.rest >>= j y) ≡ Err (again e (length more))
      fails more s =
          let y = h.2 (i.0 ++ more) (subst (λ us. SameFirst us (i.0 ++ more)) (sym i.2) (front_same i.0 i.1 more s)) in
          ap (λ us. p us >>= λ y. q y.rest >>= j y) (append_assoc h.0 i.0 more) ∙ (ap (λ (z : Read R A). z >>= λ y. q y.rest >>= j y) y.1 ∙ ap (λ (z : Read R B). z >>= j y.0) (ap q y.2 ∙ i.4 more s))
  behind ts x h (Ok w) i = ends (joins x w)
    where
      reads_on : (more : List Sign) → SameFirst w.rest more → (z : Found R C) × ((p ((h.0 ++ i.0) ++ more) >>= λ y. q y.rest >>= j y) ≡ Ok z) × (z.rest ≡ more)
      reads_on more s =
          let y = h.2 (i.0 ++ more) (subst (λ us. SameFirst us (i.0 ++ more)) (sym i.1) (front_same i.0 w.rest more s)) in
          let v = i.2 more s in
          let z = joins y.0 v.0 in (
            z.0,
            ap (λ us. p us >>= λ y. q y.rest >>= j y) (append_assoc h.0 i.0 more) ∙ (ap (λ (z : Read R A). z >>= λ y. q y.rest >>= j y) y.1 ∙ (ap (λ (z : Read R B). z >>= j y.0) (ap q y.2 ∙ v.1) ∙ z.1)),
            z.2 ∙ v.2,
          )

      ends : (z : Found R C) × (j x w ≡ Ok z) × (z.rest ≡ w.rest) → LocalAt (λ us. p us >>= λ y. q y.rest >>= j y) ts (j x w)
      ends z = subst (LocalAt (λ us. p us >>= λ y. q y.rest >>= j y) ts) (sym z.1) (h.0 ++ i.0, h.1 ∙ (ap (λ us. h.0 ++ us) (i.1 ∙ ap (λ us. i.0 ++ us) (sym z.2)) ∙ sym (append_assoc h.0 i.0 z.0.rest)), λ more s. reads_on more (subst (λ us. SameFirst us more) z.2 s))

  after_local : Local q → (ts : List Sign) (r : Read R A) → LocalAt p ts r → LocalAt (λ us. p us >>= λ y. q y.rest >>= j y) ts (r >>= λ y. q y.rest >>= j y)
  after_local l ts (Ok x) h = behind ts x h (q x.rest) (l x.rest)
  after_local l ts (Err e) h = (h.0, h.1, h.2, h.3, λ more s. ap (λ (z : Read R A). z >>= λ y. q y.rest >>= j y) (h.4 more s))

local_as : {R A : Type 0} (p q : Reader R A) → ((us : List Sign) → p us ≡ q us) → (ts : List Sign) (r : Read R A) → LocalAt q ts r → LocalAt p ts r
local_as p q e ts (Ok x) h = (h.0, h.1, λ more s. let y = h.2 more s in (y.0, e (h.0 ++ more) ∙ y.1, y.2))
local_as p q e ts (Err f) h = (h.0, h.1, h.2, h.3, λ more s. e (h.0 ++ more) ∙ h.4 more s)

one_more_joins : {R A : Type 0} (x : Found R A) (y : Found R (List A)) → (z : Found R (List A)) × (one_more x y ≡ Ok z) × (z.rest ≡ y.rest)
one_more_joins x y = (record { value = x.value ∷ y.value; uses = x.uses ++ y.uses; rest = y.rest }, refl, refl)

-- readers of many, each of which takes a token
module _ {R A : Type 0} (k : Kind → Bool) (p : Reader R A) (l : Local p) (takes : (ts : List Sign) (x : Found R A) → p ts ≡ Ok x → length x.rest < length ts) where
  whole : Reader R (List A)
  whole us = read_many k p (length us) us

  -- one, and then the others
  turn : Reader R (List A)
  turn us = p us >>= λ x. whole x.rest >>= one_more x

  step : Reader R (List A)
  step us = pick (next_is k us) turn (nothing []) us

  unrolled_at : (us : List Sign) (b : Bool) → next_is k us ≡ b → (r : Read R A) → p us ≡ r → whole us ≡ pick b turn (nothing []) us
  unfolding whole turn
  unrolled_at us false e r i = many_ends k p takes us e
  unrolled_at us true e (Ok x) i = many_more k p takes us x e i ∙ sym (ap (λ (r : Read R A). r >>= λ y. whole y.rest >>= one_more y) i)
  unrolled_at us true e (Err f) i = many_fails k p takes us f e i ∙ sym (ap (λ (r : Read R A). r >>= λ y. whole y.rest >>= one_more y) i)

  unrolled : (us : List Sign) → whole us ≡ step us
  unfolding step
  unrolled us = unrolled_at us (next_is k us) refl (p us) refl

  ends_whole : (more : List Sign) → SameFirst [] more → (y : Found R (List A)) × (whole more ≡ Ok y) × (y.rest ≡ more)
  unfolding whole
  ends_whole [] s = (record { value = []; uses = []; rest = [] }, refl, refl)
  ends_whole (u ∷ us) s = absurd s

  empty_whole : (ts : List Sign) → length ts ≤ 0 → LocalAt whole ts (whole ts)
  unfolding whole
  empty_whole [] h = ([], refl, λ more s. ends_whole more s)
  empty_whole (t ∷ ts) h = absurd (omega arith)

  turn_local : (n : ℕ) (ts : List Sign) (r : Read R A) → length ts ≤ suc n → p ts ≡ r → LocalAt p ts r → ((us : List Sign) → length us ≤ n → LocalAt whole us (whole us)) → LocalAt turn ts (r >>= λ x. whole x.rest >>= one_more x)
  unfolding turn
  turn_local n ts (Ok x) h e i f = let less = takes ts x e in behind p whole one_more one_more_joins ts x i (whole x.rest) (f x.rest (omega arith))
  turn_local n ts (Err e) h j i f = (i.0, i.1, i.2, i.3, λ more s. ap (λ (z : Read R A). z >>= λ y. whole y.rest >>= one_more y) (i.4 more s))

  step_local : (n : ℕ) (ts : List Sign) → length ts ≤ suc n → ((us : List Sign) → length us ≤ n → LocalAt whole us (whole us)) → LocalAt step ts (step ts)
  unfolding step turn
  step_local n ts h f = pick_local k turn (nothing []) ts (next_is k ts) refl (turn_local n ts (p ts) h refl (l ts) f) (nothing_local [] ts)

  whole_local_at : (n : ℕ) (ts : List Sign) → length ts ≤ n → LocalAt whole ts (whole ts)
  whole_local_at zero ts h = empty_whole ts h
  whole_local_at (suc n) ts h = local_as whole step unrolled ts (whole ts) (subst (λ r. LocalAt step ts r) (sym (unrolled ts)) (step_local n ts h (λ us i. whole_local_at n us i)))

  pub many_local : Local (λ us. read_many k p (length us) us)
  unfolding whole
  many_local ts = whole_local_at (length ts) ts (omega arith)

joined_joins : {R A B : Type 0} (x : Found R A) (y : Found R B) → (z : Found R (A × B)) × (joined x y ≡ Ok z) × (z.rest ≡ y.rest)
joined_joins x y = (record { value = (x.value, y.value); uses = x.uses ++ y.uses; rest = y.rest }, refl, refl)

level_local : {R A : Type 0} (room : Bool) (k : Kind → Bool) (p : Reader R A) → Local p → Local (λ ts. pick room p (pick (next_is k ts) no_level no_syntax) ts)
level_local true k p l ts = l ts
level_local false k p l ts = pick_local k no_level no_syntax ts (next_is k ts) refl (no_level_local ts) (no_syntax_local ts)

module _ {R σ : Type 0} (h : σ → Kind → Bool) (room : Bool) (r : σ → Reader R Tree) (b : (q : σ) → Local (r q)) (takes : (A : Type 0) (f : Form R σ A) → is_steady f ≡ true → may_vanish f ≡ false → (ts : List Sign) (x : Found R A) → reads h room r f ts ≡ Ok x → length x.rest < length ts) where
  pub local : {A : Type 0} (f : Form R σ A) → is_steady f ≡ true → Local (reads h room r f)
  local (sign m) w = one_local (read_sign m) refl (λ t. sign_takes (is_mark m (kind_of t)) t (read_sign m) (λ ts. refl))
  local (script_word v) w = one_local (read_script_word v) refl (λ t. sign_takes (is_script_word v (kind_of t)) t (read_script_word v) (λ ts. refl))
  local (word q) w = one_local (read_word q) refl (word_takes q)
  local number w = one_local read_number refl number_takes
  local nought w = one_local read_nought refl nought_takes
  local find_word w = one_local read_find refl find_takes
  local (unnamed q) w = one_local (read_unnamed q) refl (unnamed_takes q)
  local other w = one_local read_other refl (λ t. sign_takes (is_other (kind_of t)) t read_other (λ ts. refl))
  local (note q) w = λ ts. ([], refl, λ more s. (record { value = length more; uses = used q 0 more; rest = more }, refl, refl))
  local (both f g) w = λ ts. after_local (reads h room r f) (reads h room r g) joined joined_joins (local g (and_second (is_steady f) (is_steady g) w)) ts (reads h room r f ts) (local f (and_first (is_steady f) (is_steady g) w) ts)
  local (may near f) w = λ ts. pick_local (starts h f) (λ us. reads h room r f us >>= mapped Some) (nothing None) ts (next_is (starts h f) ts) refl (mapped_local (reads h room r f) Some ts (reads h room r f ts) (local f w ts)) (nothing_local None ts)
  local (many near f) w = many_local (starts h f) (reads h room r f) (local f (and_second (not (may_vanish f)) (is_steady f) w)) (takes _ f (and_second (not (may_vanish f)) (is_steady f) w) (not-true (may_vanish f) (and_first (not (may_vanish f)) (is_steady f) w)))
  local (either f g) w = λ ts. pick_local (starts h f) (reads h room r f) (reads h room r g) ts (next_is (starts h f) ts) refl (local f (and_first (is_steady f) (is_steady g) w) ts) (local g (and_second (is_steady f) (is_steady g) w) ts)
  local (made v f) w = λ ts. mapped_local (reads h room r f) v ts (reads h room r f ts) (local f w ts)
  local (level f) w = level_local room (starts h f) (reads h room r f) (local f w)
  local (deeper q) w = b q

deep_local : (R : Type 0) {σ : Type 0} (h : σ → Kind → Bool) (q : σ) → Local (too_deep {R = R} h q)
deep_local R h q ts = pick_local (h q) no_level no_syntax ts (next_is (h q) ts) refl (no_level_local ts) (no_syntax_local ts)

module _ {R σ : Type 0} (h t : σ → Kind → Bool) (rule : σ → Form R σ Tree) (w : (s : σ) → fitting h t rule s ≡ true) where
  takes_zero : (A : Type 0) (f : Form R σ A) → is_steady f ≡ true → may_vanish f ≡ false → (ts : List Sign) (x : Found R A) → reads h false (too_deep h) f ts ≡ Ok x → length x.rest < length ts
  takes_zero A f v e ts x i =
      let d = lengths h false no_sort (λ s ts t us rest d. absurd d) f ts x.value x.uses x.rest (sound h false no_sort (λ s ts t us rest d. absurd d) (too_deep h) (λ q us y d. absurd (no_ok (next_is (h q) us) us y d)) f v ts x i) in
      let k = ap toll e in omega arith

  pub takes_more : (n : ℕ) (A : Type 0) (f : Form R σ A) → is_steady f ≡ true → may_vanish f ≡ false → (ts : List Sign) (x : Found R A) → reads h true (read_sort h rule n) f ts ≡ Ok x → length x.rest < length ts
  takes_more n A f v e ts x i =
      let d = lengths h true (IsSort h rule n) (shorter h t rule w n) f ts x.value x.uses x.rest (sound h true (IsSort h rule n) (shorter h t rule w n) (read_sort h rule n) (read_is_spelled h t rule w n) f v ts x i) in
      let k = ap toll e in omega arith

  pub sort_local : (n : ℕ) (s : σ) → Local (read_sort h rule n s)
  unfolding read_sort
  sort_local zero s = local h false (too_deep h) (deep_local R h) takes_zero (rule s) (parts h t rule s (w s)).steady
  sort_local (suc n) s = local h true (read_sort h rule n) (sort_local n) (takes_more n) (rule s) (parts h t rule s (w s)).steady
