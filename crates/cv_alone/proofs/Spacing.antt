-- Spaces in the place of bytes: one byte of the result, and spaces that are put one after another.
use Rattle.std.proofs.Common.{◌≡◌, inl, inr, ℕ, zero, suc, ◌+◌, ◌-◌, ◌<◌, ◌≤◌, Bool, true, false, ◌||◌, if◌then◌else◌, List, [], ◌∷◌, ◌++◌, length, get_or, take, drop, replicate, refl, ap, sym, ◌∙◌, arith}
use Rattle.std.specs.Prelude.{slice_set}
use Rattle.std.proofs.lemmas.Bool.{and_from, and_left, and_right, cases_lt, le-leb, le-ltb, lt-leb, lt-ltb}
use Rattle.std.proofs.lemmas.List.{append-nil, append_assoc, drop_all, drop_more, drop-set-lt, ext_get_or, get_or-append_right, get_or_append_left, get_or-drop, get_or-replicate, get_or-take, length-append, length-drop, length-replicate, length-set, length-take-le, take_all, take_more_set}
use Rattle.cv_lex.specs.Lexis.{Token}
use Rattle.cv_alone.specs.Alone.{is_among, is_in_line, is_of, with_spaces, with_spaces_from}
use Rattle.cv_alone.specs.Parts.{put_if}

abbrev pub Test : Type 0
Test = (at byte : ℕ) → Bool

-- the byte that stays or becomes a space
abbrev pub put : Test → (at byte : ℕ) → ℕ
put is at byte = if is at byte then 32 else byte

pub length_spaced : (is : Test) (at : ℕ) (bs : List ℕ) → length (with_spaces_from is at bs) ≡ length bs
unfolding with_spaces_from
length_spaced is at [] = refl
length_spaced is at (b ∷ bs) = ap suc (length_spaced is (at + 1) bs)

pub at_spaced : (is : Test) (at : ℕ) (bs : List ℕ) (i : ℕ) → i < length bs → get_or (with_spaces_from is at bs) i 0 ≡ put is (at + i) (get_or bs i 0)
unfolding with_spaces_from
at_spaced is at [] i h = absurd (omega arith)
at_spaced is at (b ∷ bs) zero h = let same : at ≡ at + 0 = omega arith in ap (λ k. put is k b) same
at_spaced is at (b ∷ bs) (suc i) h =
    let same : at + 1 + i ≡ at + suc i = omega arith in
    at_spaced is (at + 1) bs i (omega arith) ∙ ap (λ k. put is k (get_or bs i 0)) same

pub at_whole : (is : Test) (bs : List ℕ) (i : ℕ) → i < length bs → get_or (with_spaces is bs) i 0 ≡ put is i (get_or bs i 0)
at_whole is bs i h = let same : 0 + i ≡ i = omega arith in at_spaced is 0 bs i h ∙ ap (λ k. put is k (get_or bs i 0)) same

-- tests that agree from an offset on
pub spaced_same : (p q : Test) (at : ℕ) (bs : List ℕ) → ((k b : ℕ) → at ≤ k → put p k b ≡ put q k b) → with_spaces_from p at bs ≡ with_spaces_from q at bs
unfolding with_spaces_from
spaced_same p q at [] h = refl
spaced_same p q at (b ∷ bs) h = let rest = spaced_same p q (at + 1) bs (λ k c l. h k c (omega arith)) in λ i. h at b (omega arith) i ∷ rest i

pub spaced_none : (p : Test) (at : ℕ) (bs : List ℕ) → ((k b : ℕ) → at ≤ k → put p k b ≡ b) → with_spaces_from p at bs ≡ bs
unfolding with_spaces_from
spaced_none p at [] h = refl
spaced_none p at (b ∷ bs) h = let rest = spaced_none p (at + 1) bs (λ k c l. h k c (omega arith)) in λ i. h at b (omega arith) i ∷ rest i

-- one after the other
pub spaced_twice : (p q r : Test) (at : ℕ) (bs : List ℕ) → ((k b : ℕ) → put r k b ≡ put p k (put q k b)) → with_spaces_from r at bs ≡ with_spaces_from p at (with_spaces_from q at bs)
unfolding with_spaces_from
spaced_twice p q r at [] h = refl
spaced_twice p q r at (b ∷ bs) h = let rest = spaced_twice p q r (at + 1) bs h in λ i. h at b i ∷ rest i

abbrev pub of : List Token → Test
of ts at _ = is_of ts at

either_space : (x y : Bool) (b : ℕ) → (if x || y then 32 else b) ≡ (if y then 32 else (if x || false then 32 else b))
either_space true true b = refl
either_space true false b = refl
either_space false y b = refl

-- a token, and then others
pub spaced_more : (out : Bool) (t : Token) (ts : List Token) (bs : List ℕ) → with_spaces (of (put_if out t ts)) bs ≡ with_spaces (of ts) (with_spaces (of (put_if out t [])) bs)
spaced_more true t ts bs = spaced_twice (of ts) (of (t ∷ [])) (of (t ∷ ts)) 0 bs (λ k b. either_space (is_among t.offset (length t.text) k) (is_of ts k) b)
spaced_more false t ts bs = spaced_twice (of ts) (of []) (of ts) 0 bs (λ k b. refl)

pub spaced_no_token : (bs : List ℕ) → with_spaces (of []) bs ≡ bs
spaced_no_token bs = spaced_none (of []) 0 bs (λ k b l. refl)

-- so many bytes from one on

among : (from count k : ℕ) → from ≤ k → k < from + count → is_among from count k ≡ true
among from count k h l = and_from _ _ (le-leb from k h) (lt-ltb k (from + count) l)

before : (from count k : ℕ) → k < from → is_among from count k ≡ false
before from count k h = and_left _ _ (lt-leb from k h)

behind : (from count k : ℕ) → from + count ≤ k → is_among from count k ≡ false
behind from count k h = and_right _ _ (le-ltb k (from + count) h)

module _ (from count : ℕ) (bs : List ℕ) (fits : from + count ≤ length bs) where
  abbrev filled : List ℕ
  filled = take from bs ++ (replicate count 32 ++ drop (from + count) bs)

  abbrev test : Test
  test at _ = is_among from count at

  long : length (take from bs) ≡ from
  long = length-take-le from bs (omega arith)

  filled_at : (i : ℕ) → i < length bs → get_or filled i 0 ≡ put test i (get_or bs i 0)
  filled_at i h =
      elim (cases_lt i from) [
        | inl first ↦
            get_or_append_left (take from bs) (replicate count 32 ++ drop (from + count) bs) 0 i (omega (arith, long))
            ∙ get_or-take from bs i 0 first
            ∙ ap (λ x. if x then 32 else get_or bs i 0) (sym (before from count i first))
        | inr past ↦
            get_or-append_right (take from bs) (replicate count 32 ++ drop (from + count) bs) from i 0 long past
            ∙ elim (cases_lt i (from + count)) [
              | inl inside ↦
                  get_or_append_left (replicate count 32) (drop (from + count) bs) 0 (i - from) (omega (arith, length-replicate {A = ℕ} count 32))
                  ∙ get_or-replicate count (i - from) 32 0 (omega arith)
                  ∙ ap (λ x. if x then 32 else get_or bs i 0) (sym (among from count i past inside))
              | inr over ↦
                  let same : from + count + (i - from - count) ≡ i = omega arith in
                  get_or-append_right (replicate count 32) (drop (from + count) bs) count (i - from) 0 (length-replicate {A = ℕ} count 32) (omega arith)
                  ∙ get_or-drop (from + count) bs (i - from - count) 0
                  ∙ ap (λ k. get_or bs k 0) same
                  ∙ ap (λ x. if x then 32 else get_or bs i 0) (sym (behind from count i over))
            ]
      ]

  pub spaced_range : filled ≡ with_spaces test bs
  spaced_range =
      let whole : length filled ≡ length bs =
      omega (arith, length-append (take from bs) (replicate count 32 ++ drop (from + count) bs), long, length-append (replicate count 32) (drop (from + count) bs), length-replicate {A = ℕ} count 32, length-drop (from + count) bs)
      in
      ext_get_or 0 filled (with_spaces test bs) (whole ∙ sym (length_spaced test 0 bs))
      (λ i h. let inside : i < length bs = omega (arith, whole) in filled_at i inside ∙ sym (at_whole test bs i inside))

-- all bytes, one after another

abbrev pub in_line : Test
in_line _ byte = is_in_line byte

-- before this place nothing but line ends is left
pub record IsErased (old bytes : List ℕ) (i : ℕ) : Type 0 where
  pub same_length : length bytes ≡ length old
  pub whole : take i bytes ++ with_spaces_from in_line i (drop i bytes) ≡ with_spaces in_line old

pub erased_none : (old : List ℕ) → IsErased old old 0
erased_none old = record { same_length = refl; whole = refl }

pub erased_more : (old bytes : List ℕ) (i x : ℕ) → IsErased old bytes i → i < length bytes → x ≡ put in_line i (get_or bytes i 0) → IsErased old (slice_set bytes i x) (i + 1)
unfolding with_spaces_from
erased_more old bytes i x e below x_is =
    let here : drop i bytes ≡ get_or bytes i 0 ∷ drop (i + 1) bytes = drop_more bytes i 0 below in
    let rest : drop (i + 1) (slice_set bytes i x) ≡ drop (i + 1) bytes = drop-set-lt (i + 1) bytes i x (omega arith) in
    record {
      same_length = length-set bytes i x ∙ e.same_length;
      whole =
          (λ j. take_more_set bytes i x below j ++ with_spaces_from in_line (i + 1) (rest j))
          ∙ append_assoc (take i bytes) (x ∷ []) (with_spaces_from in_line (i + 1) (drop (i + 1) bytes))
          ∙ (λ j. take i bytes ++ (x_is j ∷ with_spaces_from in_line (i + 1) (drop (i + 1) bytes)))
          ∙ ap (λ l. take i bytes ++ with_spaces_from in_line i l) (sym here)
          ∙ e.whole;
    }

pub erased_all : (old bytes : List ℕ) (i : ℕ) → IsErased old bytes i → length bytes ≤ i → bytes ≡ with_spaces in_line old
unfolding with_spaces_from
erased_all old bytes i e h =
    sym (append-nil bytes)
    ∙ ap (λ l. l ++ []) (sym (take_all i bytes h))
    ∙ ap (λ l. take i bytes ++ with_spaces_from in_line i l) (sym (drop_all i bytes h))
    ∙ e.whole
