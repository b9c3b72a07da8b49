-- A token that reading refuses for its depth stands one level deeper than the levels reach.
use Rattle.std.proofs.Common.{◌≡◌, ◌⊎◌, ℕ, zero, suc, ◌-◌, ◌≤◌, Bool, true, false, ◌&&◌, ◌||◌, not, inl, inr, List, [], ◌∷◌, length, refl, ap, sym, ◌∙◌, arith, subst, Option, Some, None, Ok, Err}
use Rattle.cv_syntax_trees.proofs.lists.Tests.{and_first, and_second}
use Rattle.cv_syntax_trees.specs.Tree.{Tree}
use Rattle.cv_parse_notation.specs.declared.script.ScriptWord.{ScriptWord}
use Rattle.cv_parse_notation.specs.declared.sign.Mark.{Mark}
use Rattle.cv_parse_notation.specs.declared.sign.Sign.{Sign}
use Rattle.cv_parse_notation.specs.declared.sign.Sign.TheVariants as token
use Rattle.cv_parse_notation.specs.Form.{Form, sign, script_word, word, number, nought, find_word, unnamed, other, note, both, may, many, either, made, level, deeper}
use Rattle.cv_parse_notation.specs.Spells.{Kind, kind_of, is_mark, is_script_word, is_other, may_vanish, starts, starts_both, next_is, Use, Spells, IsSort}
use Rattle.cv_parse_notation.specs.Reads.{Fault, Nesting, Found, Read, Reader, ◌>>=◌, found, pick, no_syntax, no_level, read_sign, read_script_word, read_word, read_number, read_nought, read_find, read_unnamed, read_other, nothing, joined, one_more, mapped, read_many, read_sort}
use Rattle.cv_parse_notation.proofs.Sorts.{read_is_spelled, shorter}
use Rattle.cv_parse_notation.proofs.Sound.{bind_ok, pick_ok, sound}
use Rattle.cv_parse_grammar.specs.depth.Depth.{here, later, Stands, StandsBelow}
use Rattle.cv_parse_grammar.proofs.depth.Readers.{begins_itself, has_firm_levels, has_level, is_guarded, Unbegun, unbegun}
use Rattle.cv_parse_grammar.proofs.depth.Agreement.{Agrees, same, deep, IsFirm, has_room, reads_below, reads_at, row_of, more_agrees, unbegun_below}
use Rattle.cv_parse_grammar.proofs.depth.Meeting.{IsFine, fine_first, fine_second, fine_may, fine_many, fine_left, fine_right, fine_made, fine_level, fine_row}

-- which part failed
pub bind_err : {R A B : Type 0} (r : Read R A) (g : Found R A → Read R B) (e : Fault) → (r >>= g) ≡ Err e → (r ≡ Err e) ⊎ ((x : Found R A) × (r ≡ Ok x) × (g x ≡ Err e))
bind_err (Ok x) g e i = inr (x, refl, i)
bind_err (Err f) g e i = inl (let j : f ≡ e = cc in ap (λ z. Err z) j)

pick_err : {R A : Type 0} (b : Bool) (p q : Reader R A) (ts : List Sign) (e : Fault) → pick b p q ts ≡ Err e → ((b ≡ true) × (p ts ≡ Err e)) ⊎ ((b ≡ false) × (q ts ≡ Err e))
pick_err true p q ts e i = inl (refl, i)
pick_err false p q ts e i = inr (refl, i)

-- readers of one token refuse none for its depth

no_sign : (R : Type 0) (m : Mark) (ts : List Sign) (k : ℕ) → read_sign {R = R} m ts ≡ Err (Nesting k) → ⊥
no_sign R m [] k e = cc
no_sign R m (t ∷ ts) k e = go (pick_err (is_mark m (kind_of t)) (λ us. found tt [] ts) no_syntax (t ∷ ts) (Nesting k) e)
  where
    go : ((is_mark m (kind_of t) ≡ true) × (found {R = R} {A = Unit {0}} tt [] ts ≡ Err (Nesting k))) ⊎ ((is_mark m (kind_of t) ≡ false) × (no_syntax {R = R} {A = Unit {0}} (t ∷ ts) ≡ Err (Nesting k))) → ⊥
    go (inl i) = let j = i.1 in cc
    go (inr i) = let j = i.1 in cc

no_script_word : (R : Type 0) (w : ScriptWord) (ts : List Sign) (k : ℕ) → read_script_word {R = R} w ts ≡ Err (Nesting k) → ⊥
no_script_word R w [] k e = cc
no_script_word R w (t ∷ ts) k e = go (pick_err (is_script_word w (kind_of t)) (λ us. found tt [] ts) no_syntax (t ∷ ts) (Nesting k) e)
  where
    go : ((is_script_word w (kind_of t) ≡ true) × (found {R = R} {A = Unit {0}} tt [] ts ≡ Err (Nesting k))) ⊎ ((is_script_word w (kind_of t) ≡ false) × (no_syntax {R = R} {A = Unit {0}} (t ∷ ts) ≡ Err (Nesting k))) → ⊥
    go (inl i) = let j = i.1 in cc
    go (inr i) = let j = i.1 in cc

no_other : (R : Type 0) (ts : List Sign) (k : ℕ) → read_other {R = R} ts ≡ Err (Nesting k) → ⊥
no_other R [] k e = cc
no_other R (t ∷ ts) k e = go (pick_err (is_other (kind_of t)) (λ us. found tt [] ts) no_syntax (t ∷ ts) (Nesting k) e)
  where
    go : ((is_other (kind_of t) ≡ true) × (found {R = R} {A = Unit {0}} tt [] ts ≡ Err (Nesting k))) ⊎ ((is_other (kind_of t) ≡ false) × (no_syntax {R = R} {A = Unit {0}} (t ∷ ts) ≡ Err (Nesting k))) → ⊥
    go (inl i) = let j = i.1 in cc
    go (inr i) = let j = i.1 in cc

no_word : {R : Type 0} (r : R) (ts : List Sign) (k : ℕ) → read_word r ts ≡ Err (Nesting k) → ⊥
no_word r (token.Word x w ∷ ts) k e = cc
no_word r ts k e = cc

no_unnamed : {R : Type 0} (r : R) (ts : List Sign) (k : ℕ) → read_unnamed r ts ≡ Err (Nesting k) → ⊥
no_unnamed r (token.Unnamed x ∷ ts) k e = cc
no_unnamed r ts k e = cc

no_number : (R : Type 0) (ts : List Sign) (k : ℕ) → read_number {R = R} ts ≡ Err (Nesting k) → ⊥
no_number R (token.Number x ∷ ts) k e = cc
no_number R ts k e = cc

no_find : (R : Type 0) (ts : List Sign) (k : ℕ) → read_find {R = R} ts ≡ Err (Nesting k) → ⊥
no_find R (token.Find x ∷ ts) k e = cc
no_find R ts k e = cc

no_nought : (R : Type 0) (ts : List Sign) (k : ℕ) → read_nought {R = R} ts ≡ Err (Nesting k) → ⊥
no_nought R (token.Number zero ∷ ts) k e = cc
no_nought R ts k e = cc

no_found : {R A : Type 0} (a : A) (us : List (Use R)) (rest : List Sign) (k : ℕ) → found a us rest ≡ Err (Nesting k) → ⊥
no_found a us rest k e = cc

no_syntax_is : (R A : Type 0) (ts : List Sign) (k : ℕ) → no_syntax {R = R} {A = A} ts ≡ Err (Nesting k) → ⊥
no_syntax_is R A ts k e = cc

level_is : (R A : Type 0) (ts : List Sign) (k : ℕ) → no_level {R = R} {A = A} ts ≡ Err (Nesting k) → k ≡ length ts
level_is R A ts k e = cc

no_room : (m : ℕ) → has_room m ≡ false → m ≡ 0
no_room zero c = refl
no_room (suc m) c = absurd (cc)

room_or : (m : ℕ) (g : Bool) → g ≡ true → (has_room m ≡ true) ⊎ ((m ≡ 0) × (g ≡ true))
room_or zero g e = inr (refl, e)
room_or (suc m) g e = inl refl

nothing_next : (ts : List Sign) → next_is (λ k. false) ts ≡ true → ⊥
nothing_next [] e = cc
nothing_next (t ∷ ts) e = cc

-- a phrase of two that begins otherwise than with the first
second_next : (v : Bool) (p q : Kind → Bool) (ts : List Sign) → next_is (starts_both v p q) ts ≡ true → next_is p ts ≡ false → (v ≡ true) × (next_is q ts ≡ true)
second_next true p q [] e i = absurd (cc)
second_next true p q (t ∷ ts) e i = (refl, ap (λ b. b || q (kind_of t)) (sym i) ∙ e)
second_next false p q ts e i = absurd (cc)

pub other_next : (p q : Kind → Bool) (ts : List Sign) → next_is (λ k. p k || q k) ts ≡ true → next_is p ts ≡ false → next_is q ts ≡ true
other_next p q [] e i = absurd (cc)
other_next p q (t ∷ ts) e i = ap (λ b. b || q (kind_of t)) (sym i) ∙ e

-- at the place where so many tokens are left one stands so deep in a phrase of the form
pub record StandsAt {R σ A : Type 0} (h : σ → Kind → Bool) (rule : σ → Form R σ Tree) (n depth own : ℕ) (f : Form R σ A) (ts : List Sign) (k : ℕ) : Type 0 where
  pub rest : List Sign
  pub at : k ≡ length rest
  pub stands : Stands h (IsSort h rule n) (StandsBelow h rule n depth) depth own f ts rest

module _ {R σ : Type 0} (h t : σ → Kind → Bool) (rule : σ → Form R σ Tree) (w : (s : σ) → IsFirm h t rule s) where
  -- what is read within the levels is spelled
  is_spelled : {A : Type 0} (f : Form R σ A) → IsFine h t f → (n : ℕ) (ts : List Sign) (x : Found R A) → reads_at h rule (suc n) f ts ≡ Ok x → Spells h true (IsSort h rule n) f ts x.value x.uses x.rest
  is_spelled f v n ts x e = let w' = λ (s : σ). (w s).fitting in sound h true (IsSort h rule n) (shorter h t rule w' n) (read_sort h rule n) (read_is_spelled h t rule w' n) f v.steady ts x e

  agreed : {A : Type 0} (r q : Read R A) (x : Found R A) → Agrees r q → r ≡ Ok x → q ≡ Ok x
  agreed r q x (same e) i = sym e ∙ i
  agreed r q x (deep k e l) i = absurd (cc)

  few_spelled : {A : Type 0} (f : Form R σ A) → IsFine h t f → (n bound : ℕ) → bound ≤ suc n → (ts : List Sign) (x : Found R A) → reads_at h rule bound f ts ≡ Ok x → Spells h true (IsSort h rule n) f ts x.value x.uses x.rest
  few_spelled f v n bound l ts x e = is_spelled f v n ts x (agreed (reads_at h rule bound f ts) (reads_at h rule (suc n) f ts) x (more_agrees h t rule w (suc n - bound) bound (suc n) (omega arith) f v.levels ts) e)

  -- nothing is taken where no phrase begins
  vanishes : {A : Type 0} (f : Form R σ A) → IsFine h t f → (n : ℕ) (ts : List Sign) → next_is (starts h f) ts ≡ false → may_vanish f ≡ true → (a : A) × (us : List (Use R)) × Spells h true (IsSort h rule n) f ts a us ts
  vanishes {A} f v n ts e i = go (subst (λ b. Unbegun b (reads_at h rule (suc n) f ts) ts) i (unbegun h true (read_sort h rule n) (unbegun_below h t rule w (suc n)) f v.levels ts e))
    where
      go : Unbegun true (reads_at h rule (suc n) f ts) ts → (a : A) × (us : List (Use R)) × Spells h true (IsSort h rule n) f ts a us ts
      go u = (u.0.value, u.0.uses, subst (λ rest. Spells h true (IsSort h rule n) f ts u.0.value u.0.uses rest) u.2 (is_spelled f v n ts u.0 u.1))

  second_begins : (b v a : Bool) → v ≡ true → (b && (not v || a)) ≡ true → a ≡ true
  second_begins true true a e i = i
  second_begins true false a e i = absurd (cc)
  second_begins false v a e i = absurd (cc)

  -- the first token of a phrase whose first token is its own, in an open level
  first_stands : {A : Type 0} (n : ℕ) (f : Form R σ A) → IsFine h t f → begins_itself f ≡ true → (ts : List Sign) → next_is (starts h f) ts ≡ true → Stands h (IsSort h rule n) (StandsBelow h rule n 1) 1 1 f ts ts
  first_stands n (sign m) v i ts e = record { place = refl; fits = e; levels = refl }
  first_stands n (script_word q) v i ts e = record { place = refl; fits = e; levels = refl }
  first_stands n (word r) v i ts e = record { place = refl; fits = e; levels = refl }
  first_stands n number v i ts e = record { place = refl; fits = e; levels = refl }
  first_stands n nought v i ts e = record { place = refl; fits = e; levels = refl }
  first_stands n find_word v i ts e = record { place = refl; fits = e; levels = refl }
  first_stands n (unnamed r) v i ts e = record { place = refl; fits = e; levels = refl }
  first_stands n other v i ts e = record { place = refl; fits = e; levels = refl }
  first_stands n (note r) v i ts e = absurd (nothing_next ts e)
  first_stands n (both f g) v i ts e = go (next_is (starts h f) ts) refl (λ j. first_stands n f (fine_first h t f g v) (and_first (begins_itself f) _ i) ts j) (λ c j. first_stands n g (fine_second h t f g v) (second_begins (begins_itself f) (may_vanish f) (begins_itself g) c i) ts j)
    where
      go : (c : Bool) → next_is (starts h f) ts ≡ c → (next_is (starts h f) ts ≡ true → Stands h (IsSort h rule n) (StandsBelow h rule n 1) 1 1 f ts ts) → (may_vanish f ≡ true → next_is (starts h g) ts ≡ true → Stands h (IsSort h rule n) (StandsBelow h rule n 1) 1 1 g ts ts) → Stands h (IsSort h rule n) (StandsBelow h rule n 1) 1 1 (both f g) ts ts
      go true j x y = inl (x j)
      go false j x y =
          let z = second_next (may_vanish f) (starts h f) (starts h g) ts e j in
          let p = vanishes f (fine_first h t f g v) n ts j z.0 in
          inr (record { value = p.0; uses = p.1; mid = ts; phrase = p.2; holds = y z.0 z.1 })
  first_stands n (may near f) v i ts e = first_stands n f (fine_may h t near f v) i ts e
  first_stands n (many near f) v i ts e = here (first_stands n f (fine_many h t near f v) i ts e)
  first_stands n (either f g) v i ts e = go (next_is (starts h f) ts) refl (λ j. first_stands n f (fine_left h t f g v) (and_first (begins_itself f) (begins_itself g) i) ts j) (λ j. first_stands n g (fine_right h t f g v) (and_second (begins_itself f) (begins_itself g) i) ts j)
    where
      go : (c : Bool) → next_is (starts h f) ts ≡ c → (next_is (starts h f) ts ≡ true → Stands h (IsSort h rule n) (StandsBelow h rule n 1) 1 1 f ts ts) → (next_is (starts h g) ts ≡ true → Stands h (IsSort h rule n) (StandsBelow h rule n 1) 1 1 g ts ts) → Stands h (IsSort h rule n) (StandsBelow h rule n 1) 1 1 (either f g) ts ts
      go true j x y = inl (x j)
      go false j x y = inr (j, y (other_next (starts h f) (starts h g) ts e j))
  first_stands n (made m f) v i ts e = first_stands n f (fine_made h t m f v) i ts e
  first_stands n (level f) v i ts e = first_stands n f (fine_level h t f v) i ts e
  first_stands n (deeper s) v i ts e = absurd (cc)

  one_has : (a b : Bool) → (a || b) ≡ true → (a ≡ true) ⊎ (b ≡ true)
  one_has true b e = inl refl
  one_has false b e = inr e

  none_read : {A : Type 0} (c : Bool) (ts : List Sign) (x : Found R A) → pick c (no_level {R = R} {A = A}) no_syntax ts ≡ Ok x → ⊥
  none_read true ts x e = cc
  none_read false ts x e = cc

  -- with no level left no phrase is read that has a token in a level
  unread : {A : Type 0} (f : Form R σ A) → has_level f ≡ true → (ts : List Sign) (x : Found R A) → reads_at h rule 0 f ts ≡ Ok x → ⊥
  unread (sign m) i ts x e = cc
  unread (script_word q) i ts x e = cc
  unread (word r) i ts x e = cc
  unread number i ts x e = cc
  unread nought i ts x e = cc
  unread find_word i ts x e = cc
  unread (unnamed r) i ts x e = cc
  unread other i ts x e = cc
  unread (note r) i ts x e = cc
  unread (both {A = A} {B = B} f g) i ts x e = go (bind_ok (reads_at h rule 0 f ts) (λ y. reads_at h rule 0 g y.rest >>= joined y) x e) (one_has (has_level f) (has_level g) i) (λ j y z. unread f j ts y z) (λ j y z c. unread g j y.rest z c)
    where
      go : (y : Found R A) × (reads_at h rule 0 f ts ≡ Ok y) × ((reads_at h rule 0 g y.rest >>= joined y) ≡ Ok x) → (has_level f ≡ true) ⊎ (has_level g ≡ true) → (has_level f ≡ true → (y : Found R A) → reads_at h rule 0 f ts ≡ Ok y → ⊥) → (has_level g ≡ true → (y : Found R A) (z : Found R B) → reads_at h rule 0 g y.rest ≡ Ok z → ⊥) → ⊥
      go (y, a, b) (inl j) p q = p j y a
      go (y, a, b) (inr j) p q = let d = bind_ok (reads_at h rule 0 g y.rest) (joined y) x b in q j y d.0 d.1
  unread (may near f) i ts x e = cc
  unread (many near f) i ts x e = cc
  unread (either f g) i ts x e = elim (pick_ok (next_is (starts h f) ts) (reads_at h rule 0 f) (reads_at h rule 0 g) ts x e) [ inl j ↦ unread f (and_first (has_level f) (has_level g) i) ts x j.1 | inr j ↦ unread g (and_second (has_level f) (has_level g) i) ts x j.1 ]
  unread (made m f) i ts x e = let d = bind_ok (reads_at h rule 0 f ts) (mapped m) x e in unread f i ts d.0 d.1
  unread (level f) i ts x e = none_read (next_is (starts h f) ts) ts x e
  unread (deeper s) i ts x e = none_read (next_is (h s) ts) ts x e

  -- what is refused for its depth stands deep
  module _ (n bound : ℕ) (l : bound ≤ suc n) (b : has_room bound ≡ true → (s : σ) (ts : List Sign) (k : ℕ) → reads_below h rule bound s ts ≡ Err (Nesting k) → (rest : List Sign) × (k ≡ length rest) × StandsBelow h rule n (suc bound) s ts rest) where
    second_guarded : {A B : Type 0} (f : Form R σ A) (g : Form R σ B) (ts : List Sign) (x : Found R A) → reads_at h rule bound f ts ≡ Ok x → (has_room bound ≡ true) ⊎ ((bound ≡ 0) × (is_guarded (both f g) ≡ true)) → (has_room bound ≡ true) ⊎ ((bound ≡ 0) × (is_guarded g ≡ true))
    second_guarded f g ts x e (inl i) = inl i
    second_guarded f g ts x e (inr (i, j)) = elim (one_has (has_level f) (is_guarded g) (and_second (is_guarded f) _ j)) [ inl a ↦ absurd (unread f a ts x (subst (λ m. reads_at h rule m f ts ≡ Ok x) i e)) | inr c ↦ inr (i, c) ]

    as_part : {A B : Type 0} (f : Form R σ A) (g : Form R σ B) (own : ℕ) (ts us : List Sign) (k : ℕ) → (d : StandsAt h rule n (suc bound) own f ts k) → Stands h (IsSort h rule n) (StandsBelow h rule n (suc bound)) (suc bound) own g us d.rest → StandsAt h rule n (suc bound) own g us k
    as_part f g own ts us k d s = record { rest = d.rest; at = d.at; stands = s }

    one_turn : {A : Type 0} (f : Form R σ A) → IsFine h t f → (near : Bool) (own : ℕ) → ((ts : List Sign) (k : ℕ) → reads_at h rule bound f ts ≡ Err (Nesting k) → StandsAt h rule n (suc bound) own f ts k) → (m : ℕ) (ts : List Sign) (k : ℕ) → ((us : List Sign) → read_many (starts h f) (reads_at h rule bound f) m us ≡ Err (Nesting k) → StandsAt h rule n (suc bound) own (many near f) us k) → read_many (starts h f) (reads_at h rule bound f) (suc m) ts ≡ Err (Nesting k) → StandsAt h rule n (suc bound) own (many near f) ts k
    one_turn {A} f v near own i m ts k more e = picks (pick_err (next_is (starts h f) ts) (λ us. reads_at h rule bound f us >>= λ x. read_many (starts h f) (reads_at h rule bound f) m x.rest >>= one_more x) (nothing []) ts (Nesting k) e)
      where
        others : (x : Found R A) → reads_at h rule bound f ts ≡ Ok x → (read_many (starts h f) (reads_at h rule bound f) m x.rest ≡ Err (Nesting k)) ⊎ ((y : Found R (List A)) × (read_many (starts h f) (reads_at h rule bound f) m x.rest ≡ Ok y) × (one_more x y ≡ Err (Nesting k))) → StandsAt h rule n (suc bound) own (many near f) ts k
        others x j (inl y) = let d = more x.rest y in as_part (many near f) (many near f) own x.rest ts k d (later x.value x.uses (few_spelled f v n bound l ts x j) d.stands)
        others x j (inr (y, c, q)) = absurd (cc)

        turns : (reads_at h rule bound f ts ≡ Err (Nesting k)) ⊎ ((x : Found R A) × (reads_at h rule bound f ts ≡ Ok x) × ((read_many (starts h f) (reads_at h rule bound f) m x.rest >>= one_more x) ≡ Err (Nesting k))) → StandsAt h rule n (suc bound) own (many near f) ts k
        turns (inl j) = let d = i ts k j in as_part f (many near f) own ts ts k d (here d.stands)
        turns (inr (x, j, z)) = others x j (bind_err (read_many (starts h f) (reads_at h rule bound f) m x.rest) (one_more x) (Nesting k) z)

        picks : ((next_is (starts h f) ts ≡ true) × ((reads_at h rule bound f ts >>= λ x. read_many (starts h f) (reads_at h rule bound f) m x.rest >>= one_more x) ≡ Err (Nesting k))) ⊎ ((next_is (starts h f) ts ≡ false) × (nothing {R = R} {A = List A} [] ts ≡ Err (Nesting k))) → StandsAt h rule n (suc bound) own (many near f) ts k
        picks (inl j) = turns (bind_err (reads_at h rule bound f ts) (λ x. read_many (starts h f) (reads_at h rule bound f) m x.rest >>= one_more x) (Nesting k) j.1)
        picks (inr j) = absurd (no_found [] [] ts k j.1)

    deep_turn : {A : Type 0} (f : Form R σ A) → IsFine h t f → (near : Bool) (own : ℕ) → ((ts : List Sign) (k : ℕ) → reads_at h rule bound f ts ≡ Err (Nesting k) → StandsAt h rule n (suc bound) own f ts k) → (m : ℕ) (ts : List Sign) (k : ℕ) → read_many (starts h f) (reads_at h rule bound f) m ts ≡ Err (Nesting k) → StandsAt h rule n (suc bound) own (many near f) ts k
    deep_turn f v near own i zero ts k e = absurd (cc)
    deep_turn f v near own i (suc m) ts k e = one_turn f v near own i m ts k (λ us c. deep_turn f v near own i m us k c) e

    firsts : {p q : Bool} → (p ≡ true → q ≡ true) → (has_room bound ≡ true) ⊎ ((bound ≡ 0) × (p ≡ true)) → (has_room bound ≡ true) ⊎ ((bound ≡ 0) × (q ≡ true))
    firsts f (inl c) = inl c
    firsts f (inr (i, c)) = inr (i, f c)

    at_level : {A : Type 0} (f : Form R σ A) → IsFine h t (level f) → (own : ℕ) (ts : List Sign) (k : ℕ) → (has_room bound ≡ true → reads_at h rule bound f ts ≡ Err (Nesting k) → StandsAt h rule n (suc bound) 1 f ts k) → (room : Bool) → has_room bound ≡ room → pick room (reads_at h rule bound f) (pick (next_is (starts h f) ts) no_level no_syntax) ts ≡ Err (Nesting k) → StandsAt h rule n (suc bound) own (level f) ts k
    at_level f v own ts k more true i e = let d = more i e in record { rest = d.rest; at = d.at; stands = d.stands }
    at_level {A} f v own ts k more false i e = go (pick_err (next_is (starts h f) ts) no_level no_syntax ts (Nesting k) e)
      where
        go : ((next_is (starts h f) ts ≡ true) × (no_level {R = R} {A = A} ts ≡ Err (Nesting k))) ⊎ ((next_is (starts h f) ts ≡ false) × (no_syntax {R = R} {A = A} ts ≡ Err (Nesting k))) → StandsAt h rule n (suc bound) own (level f) ts k
        go (inl c) =
            let own_first = and_second (not (may_vanish f)) (begins_itself f) (and_second (has_firm_levels f) _ v.levels) in
            let s = first_stands n f (fine_level h t f v) own_first ts c.0 in
            record { rest = ts; at = level_is R A ts k c.1; stands = subst (λ m. Stands h (IsSort h rule n) (StandsBelow h rule n (suc m)) (suc m) 1 f ts ts) (sym (no_room bound i)) s }
        go (inr c) = absurd (no_syntax_is R A ts k c.1)

    deep_in : {A : Type 0} (f : Form R σ A) → IsFine h t f → (has_room bound ≡ true) ⊎ ((bound ≡ 0) × (is_guarded f ≡ true)) → (own : ℕ) → (ts : List Sign) (k : ℕ) → reads_at h rule bound f ts ≡ Err (Nesting k) → StandsAt h rule n (suc bound) own f ts k
    deep_in (sign m) v y own ts k e = absurd (no_sign R m ts k e)
    deep_in (script_word q) v y own ts k e = absurd (no_script_word R q ts k e)
    deep_in (word r) v y own ts k e = absurd (no_word r ts k e)
    deep_in number v y own ts k e = absurd (no_number R ts k e)
    deep_in nought v y own ts k e = absurd (no_nought R ts k e)
    deep_in find_word v y own ts k e = absurd (no_find R ts k e)
    deep_in (unnamed r) v y own ts k e = absurd (no_unnamed r ts k e)
    deep_in other v y own ts k e = absurd (no_other R ts k e)
    deep_in (note r) v y own ts k e = absurd (cc)
    deep_in (both {A = A} {B = B} f g) v y own ts k e = go (λ us i. deep_in f (fine_first h t f g v) (firsts (λ c. and_first (is_guarded f) _ c) y) own us k i) (λ x e i. deep_in g (fine_second h t f g v) (second_guarded f g ts x e y) own x.rest k i) (bind_err (reads_at h rule bound f ts) (λ x. reads_at h rule bound g x.rest >>= joined x) (Nesting k) e)
      where
        second : ((x : Found R A) → reads_at h rule bound f ts ≡ Ok x → reads_at h rule bound g x.rest ≡ Err (Nesting k) → StandsAt h rule n (suc bound) own g x.rest k) → (x : Found R A) → reads_at h rule bound f ts ≡ Ok x → (reads_at h rule bound g x.rest ≡ Err (Nesting k)) ⊎ ((y : Found R B) × (reads_at h rule bound g x.rest ≡ Ok y) × (joined x y ≡ Err (Nesting k))) → StandsAt h rule n (suc bound) own (both f g) ts k
        second c x i (inl j) = let d = c x i j in as_part g (both f g) own x.rest ts k d (inr (record { value = x.value; uses = x.uses; mid = x.rest; phrase = few_spelled f (fine_first h t f g v) n bound l ts x i; holds = d.stands }))
        second c x i (inr (y, z, q)) = absurd (cc)

        go : ((us : List Sign) → reads_at h rule bound f us ≡ Err (Nesting k) → StandsAt h rule n (suc bound) own f us k) → ((x : Found R A) → reads_at h rule bound f ts ≡ Ok x → reads_at h rule bound g x.rest ≡ Err (Nesting k) → StandsAt h rule n (suc bound) own g x.rest k) → (reads_at h rule bound f ts ≡ Err (Nesting k)) ⊎ ((x : Found R A) × (reads_at h rule bound f ts ≡ Ok x) × ((reads_at h rule bound g x.rest >>= joined x) ≡ Err (Nesting k))) → StandsAt h rule n (suc bound) own (both f g) ts k
        go b c (inl i) = let d = b ts i in as_part f (both f g) own ts ts k d (inl d.stands)
        go b c (inr (x, i, j)) = second c x i (bind_err (reads_at h rule bound g x.rest) (joined x) (Nesting k) j)
    deep_in (may {A = A} near f) v y own ts k e = go (λ i. deep_in f (fine_may h t near f v) y own ts k i) (pick_err (next_is (starts h f) ts) (λ us. reads_at h rule bound f us >>= mapped Some) (nothing None) ts (Nesting k) e)
      where
        taken : (reads_at h rule bound f ts ≡ Err (Nesting k) → StandsAt h rule n (suc bound) own f ts k) → (reads_at h rule bound f ts ≡ Err (Nesting k)) ⊎ ((x : Found R A) × (reads_at h rule bound f ts ≡ Ok x) × (mapped Some x ≡ Err (Nesting k))) → StandsAt h rule n (suc bound) own (may near f) ts k
        taken b (inl i) = let d = b i in as_part f (may near f) own ts ts k d d.stands
        taken b (inr (x, i, j)) = absurd (cc)

        go : (reads_at h rule bound f ts ≡ Err (Nesting k) → StandsAt h rule n (suc bound) own f ts k) → ((next_is (starts h f) ts ≡ true) × ((reads_at h rule bound f ts >>= mapped Some) ≡ Err (Nesting k))) ⊎ ((next_is (starts h f) ts ≡ false) × (nothing {R = R} {A = Option A} None ts ≡ Err (Nesting k))) → StandsAt h rule n (suc bound) own (may near f) ts k
        go b (inl i) = taken b (bind_err (reads_at h rule bound f ts) (mapped Some) (Nesting k) i.1)
        go b (inr i) = absurd (no_found None [] ts k i.1)
    deep_in (many near f) v y own ts k e = deep_turn f (fine_many h t near f v) near own (λ us j i. deep_in f (fine_many h t near f v) y own us j i) (length ts) ts k e
    deep_in (either f g) v y own ts k e = go (λ i. deep_in f (fine_left h t f g v) (firsts (λ c. and_first (is_guarded f) (is_guarded g) c) y) own ts k i) (λ i. deep_in g (fine_right h t f g v) (firsts (λ c. and_second (is_guarded f) (is_guarded g) c) y) own ts k i) (pick_err (next_is (starts h f) ts) (reads_at h rule bound f) (reads_at h rule bound g) ts (Nesting k) e)
      where
        go : (reads_at h rule bound f ts ≡ Err (Nesting k) → StandsAt h rule n (suc bound) own f ts k) → (reads_at h rule bound g ts ≡ Err (Nesting k) → StandsAt h rule n (suc bound) own g ts k) → ((next_is (starts h f) ts ≡ true) × (reads_at h rule bound f ts ≡ Err (Nesting k))) ⊎ ((next_is (starts h f) ts ≡ false) × (reads_at h rule bound g ts ≡ Err (Nesting k))) → StandsAt h rule n (suc bound) own (either f g) ts k
        go b c (inl i) = let d = b i.1 in as_part f (either f g) own ts ts k d (inl d.stands)
        go b c (inr i) = let d = c i.1 in as_part g (either f g) own ts ts k d (inr (i.0, d.stands))
    deep_in (made {A = A} m f) v y own ts k e = go (λ i. deep_in f (fine_made h t m f v) y own ts k i) (bind_err (reads_at h rule bound f ts) (mapped m) (Nesting k) e)
      where
        go : (reads_at h rule bound f ts ≡ Err (Nesting k) → StandsAt h rule n (suc bound) own f ts k) → (reads_at h rule bound f ts ≡ Err (Nesting k)) ⊎ ((x : Found R A) × (reads_at h rule bound f ts ≡ Ok x) × (mapped m x ≡ Err (Nesting k))) → StandsAt h rule n (suc bound) own (made m f) ts k
        go b (inl i) = let d = b i in as_part f (made m f) own ts ts k d d.stands
        go b (inr (x, i, j)) = absurd (cc)
    deep_in (level f) v y own ts k e = at_level f v own ts k (λ c. deep_in f (fine_level h t f v) (inl c) 1 ts k) (has_room bound) refl e
    deep_in (deeper s) v (inl c) own ts k e = let d = b c s ts k e in record { rest = d.0; at = d.1; stands = d.2 }
    deep_in (deeper s) v (inr c) own ts k e = absurd (let i = c.1 in cc)

  below_deep : (n bound : ℕ) → bound ≤ suc n → has_room bound ≡ true → (s : σ) (ts : List Sign) (k : ℕ) → reads_below h rule bound s ts ≡ Err (Nesting k) → (rest : List Sign) × (k ≡ length rest) × StandsBelow h rule n (suc bound) s ts rest
  unfolding StandsBelow
  below_deep n zero l c s ts k e = absurd (cc)
  below_deep n (suc bound) l c s ts k e =
      let d = deep_in n bound (omega arith) (below_deep n bound (omega arith)) (rule s) (fine_row h t rule w s) (room_or bound (is_guarded (rule s)) (w s).guarded) 0 ts k (sym (row_of h rule bound s ts) ∙ e) in
      (d.rest, d.at, d.stands)

  -- a token that reading with so many levels and one refuses for its depth
  pub nesting_stands : {A : Type 0} (f : Form R σ A) → IsFine h t f → (bound : ℕ) (ts : List Sign) (k : ℕ) → reads_at h rule (suc bound) f ts ≡ Err (Nesting k) → StandsAt h rule bound (suc (suc bound)) 0 f ts k
  nesting_stands f v bound ts k e = deep_in bound (suc bound) (omega arith) (below_deep bound (suc bound) (omega arith)) f v (inl refl) 0 ts k e
