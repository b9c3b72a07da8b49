-- Reading with more levels answers the same, or with fewer a token stands too deep first.
use Rattle.std.proofs.Common.{◌≡◌, ℕ, zero, suc, ◌+◌, ◌≤◌, Bool, true, false, ◌&&◌, not, IsTrue, List, [], length, refl, ap, sym, ◌∙◌, arith, subst, Some, None, Ok, Err}
use Rattle.std.proofs.lemmas.Bool.{not-true}
use Rattle.cv_syntax_trees.proofs.lists.Tests.{and_first, and_second}
use Rattle.cv_syntax_trees.specs.Tree.{Tree}
use Rattle.cv_parse_notation.specs.declared.sign.Sign.{Sign}
use Rattle.cv_parse_notation.specs.Form.{Form, sign, script_word, word, number, nought, find_word, unnamed, other, note, both, may, many, either, made, level, deeper}
use Rattle.cv_parse_notation.specs.Spells.{Kind, starts, next_is, may_vanish, Use}
use Rattle.cv_parse_notation.specs.Reads.{Nesting, Syntax, Found, Read, Reader, ◌>>=◌, found, pick, no_syntax, no_level, nothing, joined, one_more, mapped, read_many, reads, too_deep, read_sort}
use Rattle.cv_parse_notation.specs.Fits.{fits, fitting, goes_on}
use Rattle.cv_parse_notation.specs.Whole.{SpellsWith}
use Rattle.cv_parse_notation.proofs.Complete.{complete, outside_next}
use Rattle.cv_parse_notation.proofs.Levels.{one_level_more}
use Rattle.cv_parse_notation.proofs.Sorts.{begins, parts, shorter, spelled_is_read}
use Rattle.cv_parse_grammar.proofs.depth.Readers.{left_in, left_then, Takes, takes, takes_many, takes_then, begins_itself, has_firm_levels, is_guarded, Unbegun, unbegun}
use Rattle.cv_parse_notation.proofs.Locality.{pick_false}

-- the first is the second, or a fault of depth at a token that the second doesn't pass before it answers
pub data Agrees {R A : Type 0} (r q : Read R A) : Type 0 where
  same : r ≡ q → Agrees r q
  deep : (k : ℕ) → r ≡ Err (Nesting k) → left_in q ≤ k → Agrees r q

agrees_then : {R A B : Type 0} (f g : Found R A → Read R B) → ((x : Found R A) → Agrees (f x) (g x)) → ((x : Found R A) → left_in (g x) ≤ length x.rest) → (r q : Read R A) → Agrees r q → Agrees (r >>= f) (q >>= g)
agrees_then f g a l r (Ok x) (same e) = subst (λ z. Agrees (z >>= f) (g x)) (sym e) (a x)
agrees_then {R} {A} f g a l r (Err y) (same e) = same (ap (λ (z : Read R A). z >>= f) e)
agrees_then {R} {A} f g a l r q (deep k e m) = let i = left_then g l q in deep k (ap (λ (z : Read R A). z >>= f) e) (omega arith)

agrees_pick : {R A : Type 0} (b : Bool) (p q u v : Reader R A) (ts : List Sign) → Agrees (p ts) (q ts) → Agrees (u ts) (v ts) → Agrees (pick b p u ts) (pick b q v ts)
agrees_pick true p q u v ts a c = a
agrees_pick false p q u v ts a c = c

agrees_many : {R A : Type 0} (k : Kind → Bool) (p q : Reader R A) → ((ts : List Sign) → Agrees (p ts) (q ts)) → Takes q → (n : ℕ) (ts : List Sign) → Agrees (read_many k p n ts) (read_many k q n ts)
agrees_many k p q a l zero ts = same refl
agrees_many k p q a l (suc n) ts =
    agrees_pick (next_is k ts) (λ us. p us >>= λ x. read_many k p n x.rest >>= one_more x) (λ us. q us >>= λ x. read_many k q n x.rest >>= one_more x) (nothing []) (nothing []) ts (
    agrees_then (λ x. read_many k p n x.rest >>= one_more x) (λ x. read_many k q n x.rest >>= one_more x) (λ x. agrees_then (one_more x) (one_more x) (λ y. same refl) (λ y. omega arith) (read_many k p n x.rest) (read_many k q n x.rest) (agrees_many k p q a l n x.rest)) (λ x. takes_then (read_many k q n) (one_more x) (takes_many k q l n) (λ y. omega arith) x.rest) (p ts) (q ts) (a ts)
    ) (same refl)

agrees_level : {R A : Type 0} (few more b v : Bool) (p q : Reader R A) (ts : List Sign) → (IsTrue few → IsTrue more) → v ≡ false → Agrees (p ts) (q ts) → left_in (q ts) ≤ length ts → (b ≡ false → Unbegun v (q ts) ts) → Agrees (pick few p (pick b no_level no_syntax) ts) (pick more q (pick b no_level no_syntax) ts)
agrees_level true true b v p q ts h e a l u = a
agrees_level true false b v p q ts h e a l u = absurd (let i = h refl in cc)
agrees_level false false b v p q ts h e a l u = same refl
agrees_level false true true v p q ts h e a l u = deep (length ts) refl l
agrees_level false true false true p q ts h e a l u = absurd (cc)
agrees_level false true false false p q ts h e a l u = same (sym (u refl))

module _ {R σ : Type 0} (h : σ → Kind → Bool) (few more : Bool) (r q : σ → Reader R Tree) (room : IsTrue few → IsTrue more) (a : (s : σ) (ts : List Sign) → Agrees (r s ts) (q s ts)) (l : (s : σ) → Takes (q s)) (n : (s : σ) (ts : List Sign) → next_is (h s) ts ≡ false → q s ts ≡ Err (Syntax (length ts))) where
  agrees : {A : Type 0} (f : Form R σ A) → has_firm_levels f ≡ true → (ts : List Sign) → Agrees (reads h few r f ts) (reads h more q f ts)
  agrees (sign m) w ts = same refl
  agrees (script_word c) w ts = same refl
  agrees (word c) w ts = same refl
  agrees number w ts = same refl
  agrees nought w ts = same refl
  agrees find_word w ts = same refl
  agrees (unnamed c) w ts = same refl
  agrees other w ts = same refl
  agrees (note c) w ts = same refl
  agrees (both f g) w ts =
      agrees_then (λ x. reads h few r g x.rest >>= joined x) (λ x. reads h more q g x.rest >>= joined x) (λ x. agrees_then (joined x) (joined x) (λ y. same refl) (λ y. omega arith) (reads h few r g x.rest) (reads h more q g x.rest) (agrees g (and_second (has_firm_levels f) (has_firm_levels g) w) x.rest)) (λ x. takes_then (reads h more q g) (joined x) (takes h more q l g) (λ y. omega arith) x.rest) (reads h few r f ts) (reads h more q f ts) (agrees f (and_first (has_firm_levels f) (has_firm_levels g) w) ts)
  agrees (may near f) w ts = agrees_pick (next_is (starts h f) ts) (λ us. reads h few r f us >>= mapped Some) (λ us. reads h more q f us >>= mapped Some) (nothing None) (nothing None) ts (agrees_then (mapped Some) (mapped Some) (λ y. same refl) (λ y. omega arith) (reads h few r f ts) (reads h more q f ts) (agrees f w ts)) (same refl)
  agrees (many near f) w ts = agrees_many (starts h f) (reads h few r f) (reads h more q f) (agrees f w) (takes h more q l f) (length ts) ts
  agrees (either f g) w ts =
      let i = and_second (has_firm_levels f) (has_firm_levels g && not (may_vanish f)) w in
      agrees_pick (next_is (starts h f) ts) (reads h few r f) (reads h more q f) (reads h few r g) (reads h more q g) ts (agrees f (and_first (has_firm_levels f) (has_firm_levels g && not (may_vanish f)) w) ts) (agrees g (and_first (has_firm_levels g) (not (may_vanish f)) i) ts)
  agrees (made v f) w ts = agrees_then (mapped v) (mapped v) (λ y. same refl) (λ y. omega arith) (reads h few r f ts) (reads h more q f ts) (agrees f w ts)
  agrees (level f) w ts =
      let firm = and_first (has_firm_levels f) (not (may_vanish f) && begins_itself f) w in
      agrees_level few more (next_is (starts h f) ts) (may_vanish f) (reads h few r f) (reads h more q f) ts room (not-true (may_vanish f) (and_first (not (may_vanish f)) (begins_itself f) (and_second (has_firm_levels f) (not (may_vanish f) && begins_itself f) w))) (agrees f firm ts) (takes h more q l f ts) (unbegun h more q n f firm ts)
  agrees (deeper s) w ts = a s ts

-- with n levels, the topmost among them: whether a level is left, and what reads a phrase one level down

abbrev pub has_room : ℕ → Bool
has_room zero = false
has_room (suc n) = true

abbrev pub reads_below : {R σ : Type 0} → (σ → Kind → Bool) → (σ → Form R σ Tree) → ℕ → σ → Reader R Tree
reads_below h rule zero = too_deep h
reads_below h rule (suc n) = read_sort h rule n

abbrev pub reads_at : {R σ A : Type 0} → (σ → Kind → Bool) → (σ → Form R σ Tree) → ℕ → Form R σ A → Reader R A
reads_at h rule n f = reads h (has_room n) (reads_below h rule n) f

pub row_of : {R σ : Type 0} (h : σ → Kind → Bool) (rule : σ → Form R σ Tree) (n : ℕ) (s : σ) (ts : List Sign) → reads_below h rule (suc n) s ts ≡ reads_at h rule n (rule s) ts
unfolding read_sort
row_of h rule zero s ts = refl
row_of h rule (suc n) s ts = refl

-- what the row of a sort meets
pub record IsFirm {R σ : Type 0} (h t : σ → Kind → Bool) (rule : σ → Form R σ Tree) (s : σ) : Type 0 where
  pub fitting : fitting h t rule s ≡ true
  pub levels : has_firm_levels (rule s) ≡ true
  pub guarded : is_guarded (rule s) ≡ true

module _ {R σ : Type 0} (h t : σ → Kind → Bool) (rule : σ → Form R σ Tree) (w : (s : σ) → IsFirm h t rule s) where
  takes_deep : (s : σ) → Takes (too_deep {R = R} h s)
  takes_deep s ts = go (next_is (h s) ts)
    where
      go : (b : Bool) → left_in (pick b (no_level {R = R} {A = Tree}) no_syntax ts) ≤ length ts
      go true = omega arith
      go false = omega arith

  pub takes_below : (n : ℕ) (s : σ) → Takes (reads_below h rule n s)
  takes_below zero s ts = takes_deep s ts
  takes_below (suc n) s ts = subst (λ (r : Read R Tree). left_in r ≤ length ts) (sym (row_of h rule n s ts)) (takes h (has_room n) (reads_below h rule n) (takes_below n) (rule s) ts)

  unbegun_row : (v : Bool) (r : Read R Tree) (ts : List Sign) → v ≡ false → Unbegun v r ts → r ≡ Err (Syntax (length ts))
  unbegun_row true r ts e u = absurd (cc)
  unbegun_row false r ts e u = u

  pub unbegun_below : (n : ℕ) (s : σ) (ts : List Sign) → next_is (h s) ts ≡ false → reads_below h rule n s ts ≡ Err (Syntax (length ts))
  unbegun_below zero s ts e = pick_false (next_is (h s) ts) no_level no_syntax ts e
  unbegun_below (suc n) s ts e =
      let p = parts h t rule s (w s).fitting in
      row_of h rule n s ts ∙ unbegun_row (may_vanish (rule s)) (reads_at h rule n (rule s) ts) ts p.stays (unbegun h (has_room n) (reads_below h rule n) (unbegun_below n) (rule s) (w s).levels ts (outside_next (starts h (rule s)) (h s) p.heads ts e))

  room_grows : (n : ℕ) → IsTrue (has_room n) → IsTrue (has_room (suc n))
  room_grows n e = refl

  below_agrees : (n : ℕ) (s : σ) (ts : List Sign) → Agrees (reads_below h rule n s ts) (reads_below h rule (suc n) s ts)
  below_agrees zero s ts = go (next_is (h s) ts) refl
    where
      go : (b : Bool) → next_is (h s) ts ≡ b → Agrees (pick b no_level no_syntax ts) (reads_below h rule (suc zero) s ts)
      go true e = deep (length ts) refl (takes_below (suc zero) s ts)
      go false e = same (sym (unbegun_below (suc zero) s ts e))
  below_agrees (suc n) s ts =
      subst (λ r. Agrees r (reads_below h rule (suc (suc n)) s ts)) (sym (row_of h rule n s ts)) (subst (λ r. Agrees (reads_at h rule n (rule s) ts) r) (sym (row_of h rule (suc n) s ts)) (
      agrees h (has_room n) (has_room (suc n)) (reads_below h rule n) (reads_below h rule (suc n)) (room_grows n) (below_agrees n) (takes_below (suc n)) (unbegun_below (suc n)) (rule s) (w s).levels ts
      ))

  -- with one level more
  one_more_agrees : (n : ℕ) {A : Type 0} (f : Form R σ A) → has_firm_levels f ≡ true → (ts : List Sign) → Agrees (reads_at h rule n f ts) (reads_at h rule (suc n) f ts)
  one_more_agrees n f v ts = agrees h (has_room n) (has_room (suc n)) (reads_below h rule n) (reads_below h rule (suc n)) (room_grows n) (below_agrees n) (takes_below (suc n)) (unbegun_below (suc n)) f v ts

  chained : {A : Type 0} (p q r : Read R A) → Agrees p q → Agrees q r → Agrees p r
  chained p q r (same e) b = subst (λ z. Agrees z r) (sym e) b
  chained p q r (deep k e l) (same f) = deep k e (subst (λ z. left_in z ≤ k) f l)
  chained p q r (deep k e l) (deep j f m) = deep k e (let i : left_in q ≡ j = ap left_in f in omega arith)

  -- with more levels
  pub more_agrees : (j n m : ℕ) → m ≡ j + n → {A : Type 0} (f : Form R σ A) → has_firm_levels f ≡ true → (ts : List Sign) → Agrees (reads_at h rule n f ts) (reads_at h rule m f ts)
  more_agrees zero n m e f v ts = let i : n ≡ m = omega arith in same (ap (λ k. reads_at h rule k f ts) i)
  more_agrees (suc j) n m e f v ts =
      let i : suc (j + n) ≡ m = omega arith in
      subst (λ k. Agrees (reads_at h rule n f ts) (reads_at h rule k f ts)) i (chained (reads_at h rule n f ts) (reads_at h rule (j + n) f ts) (reads_at h rule (suc (j + n)) f ts) (more_agrees j n (j + n) refl f v ts) (one_more_agrees (j + n) f v ts))

  more_spelled : {A : Type 0} (f : Form R σ A) (j n m : ℕ) → m ≡ j + n → (ts : List Sign) (a : A) (us : List (Use R)) (rest : List Sign) → SpellsWith h rule f n ts a us rest → SpellsWith h rule f m ts a us rest
  more_spelled f zero n m e ts a us rest d = let i : n ≡ m = omega arith in subst (λ k. SpellsWith h rule f k ts a us rest) i d
  more_spelled f (suc j) n m e ts a us rest d =
      let i : suc (j + n) ≡ m = omega arith in
      subst (λ k. SpellsWith h rule f k ts a us rest) i (one_level_more h rule f (j + n) ts a us rest (more_spelled f j n (j + n) refl ts a us rest d))

  -- what is spelled is read with as many levels and more
  pub spelled_read : {A : Type 0} (f : Form R σ A) → fits h t f ≡ true → (n m : ℕ) (ts : List Sign) (a : A) (us : List (Use R)) (rest : List Sign) → SpellsWith h rule f n ts a us rest → next_is (goes_on h t f) rest ≡ false → reads_at h rule (suc (m + n)) f ts ≡ found a us rest
  spelled_read f fit n m ts a us rest d e =
      let k = m + n in
      complete h t true _ (shorter h t rule (λ s. (w s).fitting) k) (begins h t rule (λ s. (w s).fitting) k) (read_sort h rule k) (spelled_is_read h t rule (λ s. (w s).fitting) k) f fit ts a us rest (more_spelled f m n k refl ts a us rest d) e

  -- what is spelled within any number of levels is read, or too deep
  pub spelled_agrees : {A : Type 0} (f : Form R σ A) → fits h t f ≡ true → has_firm_levels f ≡ true → (n m : ℕ) (ts : List Sign) (a : A) (us : List (Use R)) (rest : List Sign) → SpellsWith h rule f n ts a us rest → next_is (goes_on h t f) rest ≡ false → Agrees (reads_at h rule m f ts) (found a us rest)
  spelled_agrees f fit v n m ts a us rest d e = subst (λ r. Agrees (reads_at h rule m f ts) r) (spelled_read f fit n m ts a us rest d e) (more_agrees (suc n) m (suc (m + n)) (omega arith) f v ts)
