-- The tapes of a count are within its list, each once.
use Rattle.std.proofs.Common.{◌≡◌, ℕ, ◌<◌, Bool, true, false, cond, inl, inr, List, [], ◌∷◌, Contains, refl, sym, ap, ◌∙◌, arith}
use Rattle.std.proofs.lemmas.Bool.{or_parts}
use Rattle.std.specs.List.{AllPairs}
use Rattle.cv_meaning.specs.Tapes.{Cell, Tape, same_cell, cells_of, is_in, written}
use Rattle.cv_meaning.specs.Candidates.{below}
use Rattle.cv_meaning_laws.proofs.Counts.{same_cell_exact}
use Rattle.cv_meaning_laws.proofs.Listed.{Has, has_flat_map, apart_back}
use Rattle.cv_meaning_laws.specs.adequacy.Counted.{tapes_of}
use Rattle.cv_meaning_laws.proofs.adequacy.Lists.{flat_map_has, below_has, has_below, contains_has, has_contains}
use Rattle.cv_meaning_laws.proofs.adequacy.Ordered.{Ordered, ordered_pairs, ordered_flat_map, ordered_below}
use Rattle.cv_meaning_chances.specs.Tests.{HasDistinctCells, IsWithin}
use Rattle.cv_meaning_chances.proofs.Within.{later_distinct, not_later, written_here, written_apart, SameOff}
use Rattle.cv_meaning_runs.specs.Agreement.{AgreeAt}

-- tapes that agree

pub agree_flip : (cells : List Cell) (t u : Tape) → AgreeAt cells t u → AgreeAt cells u t
agree_flip [] t u h = tt
agree_flip (c ∷ cells) t u h = (sym h.0, agree_flip cells t u h.1)

pub agree_on : (cells : List Cell) (t u v : Tape) → AgreeAt cells t u → AgreeAt cells u v → AgreeAt cells t v
agree_on [] t u v h k = tt
agree_on (c ∷ cells) t u v h k = (h.0 ∙ k.0, agree_on cells t u v h.1 k.1)

-- each is within the list

off_listed : (cs : List (Cell × ℕ)) (t u : Tape) → Has (tapes_of cs t) u → SameOff cs u t
unfolding tapes_of
off_listed [] t u (inl e) d k = ap (λ (z : Tape). z d) e
off_listed [] t u (inr e) d k = absurd e
off_listed (c ∷ cs) t u h d k =
    let r = flat_map_has (λ v. tapes_of cs (written t c.0 v)) (below c.1) u h in
    let parts = or_parts (same_cell c.0 d) (is_in cs d) k in
    off_listed cs (written t c.0 r.0) u r.2 d parts.1 ∙ written_apart t c.0 r.0 d (apart_back c.0 d parts.0)

first_value : (c : Cell × ℕ) (cs : List (Cell × ℕ)) (t u : Tape) (v : ℕ) → HasDistinctCells (c ∷ cs) → Has (tapes_of cs (written t c.0 v)) u → u c.0 ≡ v
first_value c cs t u v x h = off_listed cs (written t c.0 v) u h c.0 (not_later c cs x) ∙ written_here t c.0 v

pub within_listed : (cs : List (Cell × ℕ)) (t u : Tape) → HasDistinctCells cs → Has (tapes_of cs t) u → IsWithin cs u
unfolding tapes_of
within_listed [] t u x h = tt
within_listed (c ∷ cs) t u x h =
    let r = flat_map_has (λ v. tapes_of cs (written t c.0 v)) (below c.1) u h in
    let small = below_has c.1 r.0 r.1 in
    let e = first_value c cs t u r.0 x r.2 in
    (omega arith, within_listed cs (written t c.0 r.0) u (later_distinct c cs x) r.2)

pub contained_within : (cs : List (Cell × ℕ)) (t u : Tape) → HasDistinctCells cs → Contains (tapes_of cs t) u → IsWithin cs u
contained_within cs t u x h = within_listed cs t u x (contains_has (tapes_of cs t) u h)

-- no two agree

pub ordered_in : {A : Type 0} (S R : A → A → Type 0) (xs : List A) → ((x y : A) → Has xs x → Has xs y → S x y → R x y) → Ordered S xs → Ordered R xs
ordered_in S R [] r h = tt
ordered_in S R (x ∷ xs) r h = (λ y i. r x y (inl refl) (inr i) (h.0 y i), ordered_in S R xs (λ y z i j. r y z (inr i) (inr j)) h.1)

abbrev pub Apart : List (Cell × ℕ) → Tape → Tape → Type 0
Apart cs u v = AgreeAt (cells_of cs) u v → ⊥

pub apart_listed : (cs : List (Cell × ℕ)) (t : Tape) → HasDistinctCells cs → Ordered (Apart cs) (tapes_of cs t)
unfolding tapes_of
apart_listed [] t x = (λ y i. absurd i, tt)
apart_listed (c ∷ cs) t x =
    ordered_flat_map (λ v w. v < w) (Apart (c ∷ cs)) (λ v. tapes_of cs (written t c.0 v))
    (λ v. ordered_in (Apart cs) (Apart (c ∷ cs)) (tapes_of cs (written t c.0 v)) (λ a b i j apart k. apart k.1) (apart_listed cs (written t c.0 v) (later_distinct c cs x)))
    (λ v w a b less i j k. let e = first_value c cs t a v x i in let f = first_value c cs t b w x j in let g = k.0 in absurd (omega arith))
    (below c.1) (ordered_below c.1)

pub apart_pairs : (cs : List (Cell × ℕ)) (t : Tape) → HasDistinctCells cs → AllPairs (Apart cs) (tapes_of cs t)
apart_pairs cs t x = ordered_pairs (Apart cs) (tapes_of cs t) (apart_listed cs t x)

-- each tape within the list agrees with one

-- the second tape, with the values of the first in the listed cells
abbrev pub copied : List (Cell × ℕ) → Tape → Tape → Tape
copied [] u t = t
copied (c ∷ cs) u t = copied cs u (written t c.0 (u c.0))

pub copied_listed : (cs : List (Cell × ℕ)) (u t : Tape) → IsWithin cs u → Has (tapes_of cs t) (copied cs u t)
unfolding tapes_of
copied_listed [] u t h = inl refl
copied_listed (c ∷ cs) u t h =
    has_flat_map (λ v. tapes_of cs (written t c.0 v)) (below c.1) (u c.0) (copied (c ∷ cs) u t) (has_below c.1 (u c.0) h.0) (copied_listed cs u (written t c.0 (u c.0)) h.1)

copied_keeps : (cs : List (Cell × ℕ)) (u t : Tape) (d : Cell) → u d ≡ t d → u d ≡ copied cs u t d
unfolding written
copied_keeps [] u t d e = e
copied_keeps (c ∷ cs) u t d e = copied_keeps cs u (written t c.0 (u c.0)) d (go (same_cell d c.0) refl)
  where
    go : (b : Bool) → same_cell d c.0 ≡ b → u d ≡ cond b (u c.0) (t d)
    go true k = ap u (same_cell_exact d c.0 k)
    go false k = e

pub copied_agrees : (cs : List (Cell × ℕ)) (u t : Tape) → AgreeAt (cells_of cs) u (copied cs u t)
copied_agrees [] u t = tt
copied_agrees (c ∷ cs) u t = (copied_keeps cs u (written t c.0 (u c.0)) c.0 (sym (written_here t c.0 (u c.0))), copied_agrees cs u (written t c.0 (u c.0)))

pub each_contained : (cs : List (Cell × ℕ)) (t u : Tape) → IsWithin cs u → (v : Tape) × Contains (tapes_of cs t) v × AgreeAt (cells_of cs) u v
each_contained cs t u h = (copied cs u t, has_contains (tapes_of cs t) (copied cs u t) (copied_listed cs u t h), copied_agrees cs u t)
