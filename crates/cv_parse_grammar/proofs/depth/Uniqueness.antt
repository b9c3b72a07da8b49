-- A token stands at one depth only.
use Rattle.std.proofs.Common.{◌≡◌, ℕ, zero, suc, ◌+◌, ◌<◌, ◌≤◌, Bool, true, false, not, inl, inr, List, length, ap, sym, ◌∙◌, arith, subst}
use Rattle.cv_syntax_trees.proofs.lists.Tests.{and_second}
use Rattle.cv_syntax_trees.specs.Tree.{Tree}
use Rattle.cv_parse_notation.specs.declared.sign.Sign.{Sign}
use Rattle.cv_parse_notation.specs.Fits.{apart, fits, goes_on}
use Rattle.cv_parse_notation.specs.Form.{Form, sign, script_word, word, number, nought, find_word, unnamed, other, note, both, may, many, either, made, level, deeper}
use Rattle.cv_parse_notation.specs.Spells.{Kind, may_vanish, starts, next_is, Use, Spells, IsSort}
use Rattle.cv_parse_notation.specs.Reads.{Read, found}
use Rattle.cv_parse_notation.proofs.Sorts.{begins, shorter}
use Rattle.cv_parse_notation.proofs.Sound.{same_found}
use Rattle.cv_parse_grammar.specs.depth.Depth.{HasDepth, InTurn, here, later, IsNext, Stands, StandsBelow}
use Rattle.cv_parse_grammar.proofs.depth.Readers.{left_in}
use Rattle.cv_parse_grammar.proofs.depth.Agreement.{IsFirm, reads_at, spelled_read}
use Rattle.cv_parse_grammar.proofs.depth.Beginning.{Begins, begins_turn, below_begins}
use Rattle.cv_parse_grammar.proofs.depth.Meeting.{IsFine, fine_first, fine_second, fine_may, fine_many, fine_left, fine_right, fine_made, fine_level, fine_row, Meets, past, deep, begins_in, meets, meets_below}
use Rattle.cv_parse_notation.proofs.Complete.{apart_next}

same_rest : {R A : Type 0} (a b : A) (us vs : List (Use R)) (p q : List Sign) → found a us p ≡ found b vs q → p ≡ q
same_rest a b us vs p q e = ap (λ z. z.rest) (same_found (record { value = a; uses = us; rest = p }) (record { value = b; uses = vs; rest = q }) e)

module _ {R σ : Type 0} (h t : σ → Kind → Bool) (rule : σ → Form R σ Tree) (w : (s : σ) → IsFirm h t rule s) where
  -- a phrase ends at one place
  one_end : {A : Type 0} (f : Form R σ A) → IsFine h t f → (n m : ℕ) (ts : List Sign) (a b : A) (us vs : List (Use R)) (p q : List Sign) → Spells h true (IsSort h rule n) f ts a us p → Spells h true (IsSort h rule m) f ts b vs q → next_is (goes_on h t f) p ≡ false → next_is (goes_on h t f) q ≡ false → p ≡ q
  one_end f v n m ts a b us vs p q d e i j =
      let k : suc (m + n) ≡ suc (n + m) = omega arith in
      let x = spelled_read h t rule w f v.fit n m ts a us p d i in
      let y = spelled_read h t rule w f v.fit m n ts b vs q e j in
      same_rest a b us vs p q (sym x ∙ (ap (λ z. reads_at h rule z f ts) k ∙ y))

  passed : {A : Type 0} (bound depth : ℕ) (rest : List Sign) (r : Read R A) (a : A) (us : List (Use R)) (mid : List Sign) → r ≡ found a us mid → length rest ≤ length mid → Meets bound depth rest r → ⊥
  passed bound depth rest r a us mid e l (past i j) = let q : length mid < length rest = subst (λ z. left_in z < length rest) e j in omega arith
  passed bound depth rest r a us mid e l (deep k i j) = let q = sym i ∙ e in cc

  -- no token stands in a phrase and behind it
  not_behind : {A : Type 0} (f : Form R σ A) → IsFine h t f → (n m d own : ℕ) → own ≤ 1 → (ts rest : List Sign) (a : A) (us : List (Use R)) (mid : List Sign) → Stands h (IsSort h rule n) (StandsBelow h rule n d) d own f ts rest → Spells h true (IsSort h rule m) f ts a us mid → next_is (goes_on h t f) mid ≡ false → length rest ≤ length mid → ⊥
  not_behind f v n m d own l ts rest a us mid x y i e =
      let b = suc (m + m) in
      passed b d rest (reads_at h rule b f ts) a us mid (spelled_read h t rule w f v.fit m m ts a us mid y i) e (meets h t rule w n b d (meets_below h t rule w n d b) f v own (omega arith) ts rest x)

  -- twice in the same phrase
  module _ (n m d e : ℕ) (b : (s : σ) (ts rest : List Sign) → StandsBelow h rule n d s ts rest → StandsBelow h rule m e s ts rest → d ≡ e) where
    same_levels : (k : Kind → Bool) (own : ℕ) (ts rest : List Sign) → IsNext k d own ts rest → IsNext k e own ts rest → d ≡ e
    same_levels k own ts rest x y = x.levels ∙ sym y.levels

    begins_first : {A : Type 0} (f : Form R σ A) (own : ℕ) (ts rest : List Sign) → Stands h (IsSort h rule n) (StandsBelow h rule n d) d own f ts rest → Begins (starts h f) ts rest
    begins_first f own ts rest x = begins_in h t rule w n 0 d (meets_below h t rule w n d 0) f own ts rest x

    begins_second : {A : Type 0} (f : Form R σ A) (own : ℕ) (ts rest : List Sign) → Stands h (IsSort h rule m) (StandsBelow h rule m e) e own f ts rest → Begins (starts h f) ts rest
    begins_second f own ts rest x = begins_in h t rule w m 0 e (meets_below h t rule w m e 0) f own ts rest x

    module _ {A : Type 0} (f : Form R σ A) (v : IsFine h t f) (own : ℕ) (l : own ≤ 1) (rest : List Sign) (z : apart (starts h f) (goes_on h t f) ≡ true) (same : (ts : List Sign) → Stands h (IsSort h rule n) (StandsBelow h rule n d) d own f ts rest → Stands h (IsSort h rule m) (StandsBelow h rule m e) e own f ts rest → d ≡ e) where
      turn_first : (ts : List Sign) → InTurn (Spells h true (IsSort h rule n) f) (λ us. Stands h (IsSort h rule n) (StandsBelow h rule n d) d own f us rest) ts → Begins (starts h f) ts rest
      turn_first ts x = begins_turn h (IsSort h rule n) (begins h t rule (λ s. (w s).fitting) n) (shorter h t rule (λ s. (w s).fitting) n) (StandsBelow h rule n d) (below_begins h t rule w n d) d f (λ us. Stands h (IsSort h rule n) (StandsBelow h rule n d) d own f us rest) rest (λ us i. begins_first f own us rest i) ts x

      turn_second : (ts : List Sign) → InTurn (Spells h true (IsSort h rule m) f) (λ us. Stands h (IsSort h rule m) (StandsBelow h rule m e) e own f us rest) ts → Begins (starts h f) ts rest
      turn_second ts x = begins_turn h (IsSort h rule m) (begins h t rule (λ s. (w s).fitting) m) (shorter h t rule (λ s. (w s).fitting) m) (StandsBelow h rule m e) (below_begins h t rule w m e) e f (λ us. Stands h (IsSort h rule m) (StandsBelow h rule m e) e own f us rest) rest (λ us i. begins_second f own us rest i) ts x

      same_turn : (ts : List Sign) → InTurn (Spells h true (IsSort h rule n) f) (λ us. Stands h (IsSort h rule n) (StandsBelow h rule n d) d own f us rest) ts → InTurn (Spells h true (IsSort h rule m) f) (λ us. Stands h (IsSort h rule m) (StandsBelow h rule m e) e own f us rest) ts → d ≡ e
      same_turn ts (here x) (here y) = same ts x y
      same_turn ts (here x) (later {mid = q} c vs y k) =
          let g = turn_second q k in
          absurd (not_behind f v n m d own l ts rest c vs q x y (apart_next (starts h f) (goes_on h t f) z q g.next) g.enough)
      same_turn ts (later {mid = p} a us x i) (here y) =
          let g = turn_first p i in
          absurd (not_behind f v m n e own l ts rest a us p y x (apart_next (starts h f) (goes_on h t f) z p g.next) g.enough)
      same_turn ts (later {mid = p} a us x i) (later {mid = q} c vs y k) =
          let j = one_end f v n m ts a c us vs p q x y (apart_next (starts h f) (goes_on h t f) z p (turn_first p i).next) (apart_next (starts h f) (goes_on h t f) z q (turn_second q k).next) in
          same_turn p i (subst (λ us. InTurn (Spells h true (IsSort h rule m) f) (λ vs. Stands h (IsSort h rule m) (StandsBelow h rule m e) e own f vs rest) us) (sym j) k)

    same_depth : {A : Type 0} (f : Form R σ A) → IsFine h t f → (own : ℕ) → own ≤ 1 → (ts rest : List Sign) → Stands h (IsSort h rule n) (StandsBelow h rule n d) d own f ts rest → Stands h (IsSort h rule m) (StandsBelow h rule m e) e own f ts rest → d ≡ e
    same_depth (sign q) v own l ts rest x y = same_levels _ own ts rest x y
    same_depth (script_word q) v own l ts rest x y = same_levels _ own ts rest x y
    same_depth (word q) v own l ts rest x y = same_levels _ own ts rest x y
    same_depth number v own l ts rest x y = same_levels _ own ts rest x y
    same_depth nought v own l ts rest x y = same_levels _ own ts rest x y
    same_depth find_word v own l ts rest x y = same_levels _ own ts rest x y
    same_depth (unnamed q) v own l ts rest x y = same_levels _ own ts rest x y
    same_depth other v own l ts rest x y = same_levels _ own ts rest x y
    same_depth (note q) v own l ts rest x y = absurd x
    same_depth (both f g) v own l ts rest (inl x) (inl y) = same_depth f (fine_first h t f g v) own l ts rest x y
    same_depth (both f g) v own l ts rest (inl x) (inr y) =
        let i = begins_second g own y.mid rest y.holds in
        let c = and_second (fits h t g) _ (and_second (fits h t f) _ v.fit) in
        absurd (not_behind f (fine_first h t f g v) n m d own l ts rest y.value y.uses y.mid x y.phrase (apart_next (starts h g) (goes_on h t f) c y.mid i.next) i.enough)
    same_depth (both f g) v own l ts rest (inr x) (inl y) =
        let i = begins_first g own x.mid rest x.holds in
        let c = and_second (fits h t g) _ (and_second (fits h t f) _ v.fit) in
        absurd (not_behind f (fine_first h t f g v) m n e own l ts rest x.value x.uses x.mid y x.phrase (apart_next (starts h g) (goes_on h t f) c x.mid i.next) i.enough)
    same_depth (both f g) v own l ts rest (inr x) (inr y) =
        let i = begins_first g own x.mid rest x.holds in
        let j = begins_second g own y.mid rest y.holds in
        let c = and_second (fits h t g) _ (and_second (fits h t f) _ v.fit) in
        let k = one_end f (fine_first h t f g v) n m ts x.value y.value x.uses y.uses x.mid y.mid x.phrase y.phrase (apart_next (starts h g) (goes_on h t f) c x.mid i.next) (apart_next (starts h g) (goes_on h t f) c y.mid j.next) in
        same_depth g (fine_second h t f g v) own l x.mid rest x.holds (subst (λ us. Stands h (IsSort h rule m) (StandsBelow h rule m e) e own g us rest) (sym k) y.holds)
    same_depth (may near f) v own l ts rest x y = same_depth f (fine_may h t near f v) own l ts rest x y
    same_depth (many near f) v own l ts rest x y =
        let fine = fine_many h t near f v in
        same_turn f fine own l rest (and_second (not (may_vanish f)) _ (and_second (fits h t f) _ v.fit)) (λ us i j. same_depth f fine own l us rest i j) ts x y
    same_depth (either f g) v own l ts rest (inl x) (inl y) = same_depth f (fine_left h t f g v) own l ts rest x y
    same_depth (either f g) v own l ts rest (inl x) (inr y) = absurd (let i = (begins_first f own ts rest x).next in let j = y.0 in cc)
    same_depth (either f g) v own l ts rest (inr x) (inl y) = absurd (let i = (begins_second f own ts rest y).next in let j = x.0 in cc)
    same_depth (either f g) v own l ts rest (inr x) (inr y) = same_depth g (fine_right h t f g v) own l ts rest x.1 y.1
    same_depth (made q f) v own l ts rest x y = same_depth f (fine_made h t q f v) own l ts rest x y
    same_depth (level f) v own l ts rest x y = same_depth f (fine_level h t f v) 1 (omega arith) ts rest x y
    same_depth (deeper s) v own l ts rest x y = b s ts rest x y

  same_below : (n m d e : ℕ) (s : σ) (ts rest : List Sign) → StandsBelow h rule n d s ts rest → StandsBelow h rule m e s ts rest → d ≡ e
  unfolding StandsBelow
  same_below n m zero e s ts rest x y = absurd x
  same_below n m (suc d) zero s ts rest x y = absurd y
  same_below n m (suc d) (suc e) s ts rest x y = ap suc (same_depth n m d e (same_below n m d e) (rule s) (fine_row h t rule w s) 0 (omega arith) ts rest x y)

  -- the depth of a token
  pub one_depth : {A : Type 0} (f : Form R σ A) → IsFine h t f → (ts rest : List Sign) (d e : ℕ) → HasDepth h rule f ts rest d → HasDepth h rule f ts rest e → d ≡ e
  one_depth f v ts rest d e x y = same_depth x.0 y.0 d e (same_below x.0 y.0 d e) f v 0 (omega arith) ts rest x.1 y.1
