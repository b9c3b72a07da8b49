-- What is read is spelled so.
use Rattle.std.proofs.Common.{◌≡◌, ℕ, zero, suc, ◌<◌, ◌≤◌, Bool, true, false, not, ◌⊎◌, inl, inr, IsTrue, List, [], ◌∷◌, ◌++◌, length, refl, ap, sym, ◌∙◌, arith, subst, Some, None, Ok, Err}
use Rattle.std.proofs.lemmas.Bool.Decides.{nat_tests}
use Rattle.std.proofs.lemmas.Bool.{not-true}
use Rattle.cv_syntax_trees.proofs.lists.Tests.{and_first, and_second}
use Rattle.cv_syntax_trees.specs.Tree.{Tree}
use Rattle.cv_parse_notation.specs.declared.script.ScriptWord.{ScriptWord}
use Rattle.cv_parse_notation.specs.declared.sign.Mark.{Mark}
use Rattle.cv_parse_notation.specs.declared.sign.Sign.{Sign}
use Rattle.cv_parse_notation.specs.declared.sign.Sign.TheVariants as token
use Rattle.cv_parse_notation.specs.Marks.{mark_code, mark_of, mark_of_code, same_mark}
use Rattle.cv_parse_notation.specs.ScriptWords.{word_code, word_of, word_of_code, same_word}
use Rattle.cv_parse_notation.specs.Form.{Form, sign, script_word, word, number, nought, find_word, unnamed, other, note, both, may, many, either, made, level, deeper}
use Rattle.cv_parse_notation.specs.Spells.{Kind, kind_of, is_other, starts, next_is, Use, used, IsToken, IsWord, IsScriptWord, IsNothing, Follow, Perhaps, Each, Spells, IsSort, no_sort, may_vanish, is_steady}
use Rattle.cv_parse_notation.proofs.Lengths.{toll, lengths, sort_lengths}
use Rattle.cv_parse_notation.specs.Reads.{Found, Read, Reader, ◌>>=◌, found, pick, no_syntax, no_level, read_sign, read_script_word, read_word, read_number, read_nought, read_find, read_unnamed, read_other, nothing, joined, one_more, mapped, read_many, reads, too_deep, read_sort}

pub bind_ok : {R A B : Type 0} (r : Read R A) (f : Found R A → Read R B) (y : Found R B) → (r >>= f) ≡ Ok y → (x : Found R A) × (r ≡ Ok x) × (f x ≡ Ok y)
bind_ok (Ok x) f y h = (x, refl, h)
bind_ok (Err e) f y h = absurd (cc)

pub same_found : {R A : Type 0} (x y : Found R A) → (let r : Read R A = Ok x in r) ≡ Ok y → x ≡ y
same_found x y h = cc

pub pick_ok : {R A : Type 0} (b : Bool) (p q : Reader R A) (ts : List Sign) (y : Found R A) → pick b p q ts ≡ Ok y → ((b ≡ true) × (p ts ≡ Ok y)) ⊎ ((b ≡ false) × (q ts ≡ Ok y))
pick_ok true p q ts y h = inl (refl, h)
pick_ok false p q ts y h = inr (refl, h)

pub same_mark_eq : (k m : Mark) → same_mark k m ≡ true → k ≡ m
same_mark_eq k m h = let e : mark_code k ≡ mark_code m = grind (arith, nat_tests) in sym (mark_of_code k) ∙ (ap mark_of e ∙ mark_of_code m)

pub same_word_eq : (v w : ScriptWord) → same_word v w ≡ true → v ≡ w
same_word_eq v w h = let e : word_code v ≡ word_code w = grind (arith, nat_tests) in sym (word_of_code v) ∙ (ap word_of e ∙ word_of_code w)

-- a reader's answer is in a relation
abbrev pub Lies : {R A : Type 0} → (List Sign → A → List (Use R) → List Sign → Type 0) → List Sign → Found R A → Type 0
Lies P ts x = P ts x.value x.uses x.rest

pub lies : {R A : Type 0} (P : List Sign → A → List (Use R) → List Sign → Type 0) (ts : List Sign) (x y : Found R A) → (let r : Read R A = Ok x in r) ≡ Ok y → Lies P ts x → Lies P ts y
lies P ts x y h d = subst (λ z. Lies P ts z) (same_found x y h) d

abbrev pub Sound : {R A : Type 0} → Reader R A → (List Sign → A → List (Use R) → List Sign → Type 0) → Type 0
Sound {R} {A} p P = (ts : List Sign) (x : Found R A) → p ts ≡ Ok x → Lies P ts x

abbrev sign_is : {R : Type 0} → Mark → List Sign → Unit {0} → List (Use R) → List Sign → Type 0
sign_is m ts a us rest = IsToken (token.Mark m) [] ts us rest

sign_sound : {R : Type 0} (m : Mark) (ts : List Sign) (x : Found R (Unit {0})) → read_sign m ts ≡ Ok x → IsToken (token.Mark m) [] ts x.uses x.rest
sign_sound m [] x h = absurd (cc)
sign_sound m (token.Word n w ∷ ts) x h = absurd (cc)
sign_sound m (token.Number zero ∷ ts) x h = absurd (cc)
sign_sound m (token.Number (suc n) ∷ ts) x h = absurd (cc)
sign_sound m (token.Find n ∷ ts) x h = absurd (cc)
sign_sound m (token.Unnamed n ∷ ts) x h = absurd (cc)
sign_sound {R} m (token.Mark k ∷ ts) x h = elim (pick_ok (same_mark k m) (λ us. found tt [] ts) no_syntax (token.Mark k ∷ ts) x h) [
  | inl e ↦
      lies (sign_is m) (token.Mark k ∷ ts) (record { value = tt; uses = []; rest = ts }) x e.1 (record { tokens = ap (λ j. token.Mark j ∷ ts) (same_mark_eq k m e.0); uses = refl })
  | inr e ↦ absurd (cc)
]

script_word_sound : {R : Type 0} (w : ScriptWord) (ts : List Sign) (x : Found R (Unit {0})) → read_script_word w ts ≡ Ok x → IsScriptWord w ts x.uses x.rest
script_word_sound w [] x h = absurd (cc)
script_word_sound w (token.Number zero ∷ ts) x h = absurd (cc)
script_word_sound w (token.Number (suc n) ∷ ts) x h = absurd (cc)
script_word_sound w (token.Find n ∷ ts) x h = absurd (cc)
script_word_sound w (token.Unnamed n ∷ ts) x h = absurd (cc)
script_word_sound w (token.Mark k ∷ ts) x h = absurd (cc)
script_word_sound {R} w (token.Word n v ∷ ts) x h = elim (pick_ok (same_word v w) (λ us. found tt [] ts) no_syntax (token.Word n v ∷ ts) x h) [
  | inl e ↦
      lies (λ us a vs rest. IsScriptWord w us vs rest) (token.Word n v ∷ ts) (record { value = tt; uses = []; rest = ts }) x e.1 (record { text = n; tokens = ap (λ j. token.Word n j ∷ ts) (same_word_eq v w e.0); uses = refl })
  | inr e ↦ absurd (cc)
]

word_sound : {R : Type 0} (r : R) (ts : List Sign) (x : Found R ℕ) → read_word r ts ≡ Ok x → IsWord x.value (used r x.value ts) ts x.uses x.rest
word_sound r (token.Word n w ∷ ts) x h =
    lies (λ us a vs rest. IsWord a (used r a us) us vs rest) (token.Word n w ∷ ts) (record { value = n; uses = used r n (token.Word n w ∷ ts); rest = ts }) x h (record { script = w; tokens = refl; uses = refl })
word_sound r ts x h = absurd (cc)

unnamed_sound : {R : Type 0} (r : R) (ts : List Sign) (x : Found R ℕ) → read_unnamed r ts ≡ Ok x → IsToken (token.Unnamed x.value) (used r x.value ts) ts x.uses x.rest
unnamed_sound r (token.Unnamed n ∷ ts) x h =
    lies (λ us a vs rest. IsToken (token.Unnamed a) (used r a us) us vs rest) (token.Unnamed n ∷ ts) (record { value = n; uses = used r n (token.Unnamed n ∷ ts); rest = ts }) x h (record { tokens = refl; uses = refl })
unnamed_sound r ts x h = absurd (cc)

number_sound : {R : Type 0} (ts : List Sign) (x : Found R ℕ) → read_number ts ≡ Ok x → IsToken (token.Number x.value) [] ts x.uses x.rest
number_sound (token.Number n ∷ ts) x h = lies (λ us a vs rest. IsToken (token.Number a) [] us vs rest) (token.Number n ∷ ts) (record { value = n; uses = []; rest = ts }) x h (record { tokens = refl; uses = refl })
number_sound ts x h = absurd (cc)

find_sound : {R : Type 0} (ts : List Sign) (x : Found R ℕ) → read_find ts ≡ Ok x → IsToken (token.Find x.value) [] ts x.uses x.rest
find_sound (token.Find n ∷ ts) x h = lies (λ us a vs rest. IsToken (token.Find a) [] us vs rest) (token.Find n ∷ ts) (record { value = n; uses = []; rest = ts }) x h (record { tokens = refl; uses = refl })
find_sound ts x h = absurd (cc)

nought_sound : {R : Type 0} (ts : List Sign) (x : Found R (Unit {0})) → read_nought ts ≡ Ok x → IsToken (token.Number 0) [] ts x.uses x.rest
nought_sound (token.Number zero ∷ ts) x h = lies (λ us a vs rest. IsToken (token.Number 0) [] us vs rest) (token.Number zero ∷ ts) (record { value = tt; uses = []; rest = ts }) x h (record { tokens = refl; uses = refl })
nought_sound ts x h = absurd (cc)

other_sound : {R : Type 0} (ts : List Sign) (x : Found R (Unit {0})) → read_other ts ≡ Ok x → (t : Sign) × (is_other (kind_of t) ≡ true) × IsToken t [] ts x.uses x.rest
other_sound [] x h = absurd (cc)
other_sound {R} (t ∷ ts) x h = elim (pick_ok (is_other (kind_of t)) (λ us. found tt [] ts) no_syntax (t ∷ ts) x h) [
  | inl e ↦ (t, e.0, lies (λ us a vs rest. IsToken t [] us vs rest) (t ∷ ts) (record { value = tt; uses = []; rest = ts }) x e.1 (record { tokens = refl; uses = refl }))
  | inr e ↦ absurd (cc)
]

both_sound : {R A B : Type 0} (p : Reader R A) (q : Reader R B) (P : List Sign → A → List (Use R) → List Sign → Type 0) (Q : List Sign → B → List (Use R) → List Sign → Type 0) → Sound p P → Sound q Q → Sound (λ ts. p ts >>= λ x. q x.rest >>= joined x) (λ ts a us rest. Follow P Q ts a.0 a.1 us rest)
both_sound p q P Q s t ts x h =
    let b = bind_ok (p ts) (λ y. q y.rest >>= joined y) x h in
    let c = bind_ok (q b.0.rest) (joined b.0) x b.2 in
    lies (λ ts a us rest. Follow P Q ts a.0 a.1 us rest) ts (record { value = (b.0.value, c.0.value); uses = b.0.uses ++ c.0.uses; rest = c.0.rest }) x c.2 (
    record { mid = b.0.rest; front = b.0.uses; back = c.0.uses; first = s ts b.0 b.1; second = t b.0.rest c.0 c.1; uses = refl }
    )

may_sound : {R A : Type 0} (p : Reader R A) (P : List Sign → A → List (Use R) → List Sign → Type 0) (near : Bool) (k : Kind → Bool) → Sound p P → Sound (λ ts. pick (next_is k ts) (λ us. p us >>= mapped Some) (nothing None) ts) (Perhaps P near k)
may_sound p P near k s ts x h = elim (pick_ok (next_is k ts) (λ us. p us >>= mapped Some) (nothing None) ts x h) [
  | inl e ↦ let b = bind_ok (p ts) (mapped Some) x e.1 in lies (Perhaps P near k) ts (record { value = Some b.0.value; uses = b.0.uses; rest = b.0.rest }) x b.2 (s ts b.0 b.1)
  | inr e ↦ lies (Perhaps P near k) ts (record { value = None; uses = []; rest = ts }) x e.1 (record { tokens = refl; uses = refl }, λ _. e.0)
]

none_next : (k : Kind → Bool) (ts : List Sign) → length ts ≤ 0 → next_is k ts ≡ false
none_next k [] h = refl
none_next k (t ∷ ts) h = absurd (omega arith)

module _ {R A : Type 0} (p : Reader R A) (P : List Sign → A → List (Use R) → List Sign → Type 0) (near : Bool) (k : Kind → Bool) (s : Sound p P) (shorter : (ts : List Sign) (a : A) (us : List (Use R)) (rest : List Sign) → P ts a us rest → length rest < length ts) where
  many_sound : (n : ℕ) (ts : List Sign) (x : Found R (List A)) → length ts ≤ n → read_many k p n ts ≡ Ok x → Each P near k ts x.value x.uses x.rest
  many_sound zero ts x m h = lies (Each P near k) ts (record { value = []; uses = []; rest = ts }) x h (record { tokens = refl; uses = refl }, λ _. none_next k ts m)
  many_sound (suc n) ts x m h = elim (pick_ok (next_is k ts) (λ us. p us >>= λ y. read_many k p n y.rest >>= one_more y) (nothing []) ts x h) [
    | inl e ↦
        let b = bind_ok (p ts) (λ y. read_many k p n y.rest >>= one_more y) x e.1 in
        let c = bind_ok (read_many k p n b.0.rest) (one_more b.0) x b.2 in
        let d = s ts b.0 b.1 in
        let less = shorter ts b.0.value b.0.uses b.0.rest d in
        lies (Each P near k) ts (record { value = b.0.value ∷ c.0.value; uses = b.0.uses ++ c.0.uses; rest = c.0.rest }) x c.2 (
        record { mid = b.0.rest; front = b.0.uses; back = c.0.uses; first = d; second = many_sound n b.0.rest c.0 (omega arith) c.1; uses = refl }
        )
    | inr e ↦ lies (Each P near k) ts (record { value = []; uses = []; rest = ts }) x e.1 (record { tokens = refl; uses = refl }, λ _. e.0)
  ]

pub no_ok : {R A : Type 0} (b : Bool) (ts : List Sign) (x : Found R A) → pick b no_level no_syntax ts ≡ Ok x → ⊥
no_ok true ts x h = cc
no_ok false ts x h = cc

level_ok : {R A : Type 0} (room b : Bool) (p : Reader R A) (ts : List Sign) (x : Found R A) → pick room p (pick b no_level no_syntax) ts ≡ Ok x → IsTrue room × (p ts ≡ Ok x)
level_ok true b p ts x h = (refl, h)
level_ok false b p ts x h = absurd (no_ok b ts x h)

module _ {R σ : Type 0} (h : σ → Kind → Bool) (room : Bool) (below : σ → List Sign → Tree → List (Use R) → List Sign → Type 0) (shorter : (s : σ) (ts : List Sign) (t : Tree) (us : List (Use R)) (rest : List Sign) → below s ts t us rest → length rest < length ts) (r : σ → Reader R Tree) (s : (q : σ) → Sound (r q) (below q)) where
  pub sound : {A : Type 0} (f : Form R σ A) → is_steady f ≡ true → (ts : List Sign) (x : Found R A) → reads h room r f ts ≡ Ok x → Spells h room below f ts x.value x.uses x.rest
  sound (sign m) w ts x e = sign_sound m ts x e
  sound (script_word v) w ts x e = script_word_sound v ts x e
  sound (word q) w ts x e = word_sound q ts x e
  sound number w ts x e = number_sound ts x e
  sound nought w ts x e = nought_sound ts x e
  sound find_word w ts x e = find_sound ts x e
  sound (unnamed q) w ts x e = unnamed_sound q ts x e
  sound other w ts x e = other_sound ts x e
  sound (note q) w ts x e = lies (λ us a vs rest. (a ≡ length us) × IsNothing (used q 0 us) us vs rest) ts (record { value = length ts; uses = used q 0 ts; rest = ts }) x e (refl, record { tokens = refl; uses = refl })
  sound (both f g) w ts x e = both_sound (reads h room r f) (reads h room r g) (Spells h room below f) (Spells h room below g) (sound f (and_first (is_steady f) (is_steady g) w)) (sound g (and_second (is_steady f) (is_steady g) w)) ts x e
  sound (may near f) w ts x e = may_sound (reads h room r f) (Spells h room below f) near (starts h f) (sound f w) ts x e
  sound (many near f) w ts x e =
      let v = ap toll (not-true (may_vanish f) (and_first (not (may_vanish f)) (is_steady f) w)) in
      many_sound (reads h room r f) (Spells h room below f) near (starts h f) (sound f (and_second (not (may_vanish f)) (is_steady f) w)) (λ ts a us rest d. let i = lengths h room below shorter f ts a us rest d in omega arith) (length ts) ts x (omega arith) e
  sound (either f g) w ts x e = elim (pick_ok (next_is (starts h f) ts) (reads h room r f) (reads h room r g) ts x e) [
    | inl q ↦ inl (sound f (and_first (is_steady f) (is_steady g) w) ts x q.1)
    | inr q ↦ inr (q.0, sound g (and_second (is_steady f) (is_steady g) w) ts x q.1)
  ]
  sound (made v f) w ts x e =
      let b = bind_ok (reads h room r f ts) (mapped v) x e in
      lies (Spells h room below (made v f)) ts (record { value = v b.0.value; uses = b.0.uses; rest = b.0.rest }) x b.2 (b.0.value, sound f w ts b.0 b.1, refl)
  sound (level f) w ts x e = let q = level_ok room (next_is (starts h f) ts) (reads h room r f) ts x e in (q.0, sound f w ts x q.1)
  sound (deeper q) w ts x e = s q ts x e

-- what is read is spelled so
pub sort_sound : {R σ : Type 0} (h : σ → Kind → Bool) (rule : σ → Form R σ Tree) → ((s : σ) → may_vanish (rule s) ≡ false) → ((s : σ) → is_steady (rule s) ≡ true) → (n : ℕ) (s : σ) (ts : List Sign) (x : Found R Tree) → read_sort h rule n s ts ≡ Ok x → IsSort h rule n s ts x.value x.uses x.rest
unfolding IsSort read_sort
sort_sound h rule v w zero s ts x e = sound h false no_sort (λ s ts t us rest d. absurd d) (too_deep h) (λ q us y d. absurd (no_ok (next_is (h q) us) us y d)) (rule s) (w s) ts x e
sort_sound h rule v w (suc n) s ts x e = sound h true (IsSort h rule n) (sort_lengths h rule v n) (read_sort h rule n) (sort_sound h rule v w n) (rule s) (w s) ts x e
