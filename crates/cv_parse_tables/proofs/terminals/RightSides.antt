-- The parentheses that open right sides: what the two passes do, and what stays as it was.
use Rattle.std.proofs.Common.{◌≡◌, ◌≢◌, ℕ, zero, suc, ◌+◌, ◌<◌, ◌≤◌, Bool, true, false, ◌&&◌, List, [], ◌∷◌, ◌++◌, length, drop, take, get_or, Option, Some, None, refl, ap, ap₂, sym, ◌∙◌, subst, arith, append_assoc}
use Rattle.std.specs.Prelude.{IfSome, slice_get, slice_set}
use Rattle.std.proofs.lemmas.List.{append-nil, drop_all, drop_more, drop-set, drop-set-lt, get_or-take, length-set, take-set, take-take, take_all, take_more_set}
use Rattle.std.specs.List.{AllByRecursion}
use Rattle.cv_parse_notation.specs.declared.sign.Mark.{Mark}
use Rattle.cv_parse_notation.specs.declared.sign.Mark.TheVariants as mark
use Rattle.cv_parse_notation.specs.declared.sign.Sign.{Sign}
use Rattle.cv_parse_notation.specs.declared.sign.Sign.TheVariants as sign
use Rattle.cv_parse_tables.specs.declared.terminals.openings.Turn.{Turn}
use Rattle.cv_parse_tables.specs.declared.terminals.openings.Turn.TheVariants.{Event, Period, Opening, Closing, Joining, Arrow, Other}
use Rattle.cv_parse_tables.specs.declared.terminals.openings.Place.{Place}
use Rattle.cv_parse_tables.specs.declared.terminals.openings.Place.TheVariants.{Outside, AtAtom, InAtom}
use Rattle.cv_parse_tables.specs.terminals.Openings.{closings_at, closings_before_event, has_event, in_atom, is_at_atom, is_for_atoms, is_nought, next_place, open_in, openings_from, place_behind, settled_from, turn_of, turn_of_mark, with_events, with_opening, with_openings}
use Rattle.cv_parse_tables.specs.terminals.Worked.{small_right_side}

-- a told sign is the same to right sides

turn_stays : (right : Bool) (s : Sign) (t : Turn) → turn_of s ≡ t → turn_of (with_opening right t s) ≡ t
turn_stays true s Opening e = refl
turn_stays false s Opening e = refl
turn_stays right s Event e = e
turn_stays right s Period e = e
turn_stays right s Closing e = e
turn_stays right s Joining e = e
turn_stays right s Arrow e = e
turn_stays right s Other e = e

pub same_turn : (right : Bool) (s : Sign) → turn_of (with_opening right (turn_of s) s) ≡ turn_of s
same_turn right s = turn_stays right s (turn_of s) refl

-- the two passes are one

abbrev told : Place → Bool → List Sign → Turn → Sign → List Sign
told place right ss t s = with_opening right t s ∷ settled_from (next_place right place t) ss

-- it makes a difference at an opening parenthesis alone
all_alike : (place : Place) (right : Bool) (ss : List Sign) (t : Turn) (s : Sign) → t ≢ Opening → told place right ss t s ≡ told place false ss t s
all_alike place false ss t s h = refl
all_alike place true ss Opening s h = absurd (h refl)
all_alike place true ss t s h = refl

-- by what the sign is to right sides
settles : (place : Place) (s : Sign) (ahead : Bool) (ss : List Sign) (t : Turn) → told place (is_at_atom place && is_for_atoms (with_opening ahead t s)) ss t (with_opening ahead t s) ≡ told place (is_at_atom place && ahead) ss t s
settles place s true ss Opening = refl
settles place s false ss Opening = refl
settles place s ahead ss Event = all_alike place (is_at_atom place && is_for_atoms s) ss Event s (λ e. absurd (cc)) ∙ sym (all_alike place (is_at_atom place && ahead) ss Event s (λ e. absurd (cc)))
settles place s ahead ss Period = all_alike place (is_at_atom place && is_for_atoms s) ss Period s (λ e. absurd (cc)) ∙ sym (all_alike place (is_at_atom place && ahead) ss Period s (λ e. absurd (cc)))
settles place s ahead ss Closing = all_alike place (is_at_atom place && is_for_atoms s) ss Closing s (λ e. absurd (cc)) ∙ sym (all_alike place (is_at_atom place && ahead) ss Closing s (λ e. absurd (cc)))
settles place s ahead ss Joining = all_alike place (is_at_atom place && is_for_atoms s) ss Joining s (λ e. absurd (cc)) ∙ sym (all_alike place (is_at_atom place && ahead) ss Joining s (λ e. absurd (cc)))
settles place s ahead ss Arrow = all_alike place (is_at_atom place && is_for_atoms s) ss Arrow s (λ e. absurd (cc)) ∙ sym (all_alike place (is_at_atom place && ahead) ss Arrow s (λ e. absurd (cc)))
settles place s ahead ss Other = all_alike place (is_at_atom place && is_for_atoms s) ss Other s (λ e. absurd (cc)) ∙ sym (all_alike place (is_at_atom place && ahead) ss Other s (λ e. absurd (cc)))

pub two_passes : (place : Place) (ss : List Sign) → settled_from place (with_events ss) ≡ openings_from place ss
unfolding settled_from with_events openings_from
two_passes place [] = refl
two_passes place (s ∷ ss) =
    let ahead = has_event ss in
    let x = with_opening ahead (turn_of s) s in
    ap (λ t. told place (is_at_atom place && is_for_atoms x) (with_events ss) t x) (same_turn ahead s)
    ∙ (settles place s ahead (with_events ss) (turn_of s)
    ∙ ap (λ l. with_opening (is_at_atom place && ahead) (turn_of s) s ∷ l) (two_passes (next_place (is_at_atom place && ahead) place (turn_of s)) ss))

-- the pass backwards: behind a place each parenthesis with an event ahead is told
pub record IsMarked (old signs : List Sign) (closings : Option ℕ) (k : ℕ) : Type 0 where
  pub same_length : length signs ≡ length old
  pub within : k ≤ length signs
  pub front : take k signs ≡ take k old
  pub back : drop k signs ≡ with_events (drop k old)
  pub ahead : closings ≡ closings_before_event (drop k old)
  pub small : IfSome closings (λ n. n + k ≤ length signs)

pub marked_begins : (old : List Sign) (n : ℕ) → n ≡ length old → IsMarked old old None n
unfolding with_events closings_before_event
marked_begins old n e =
    let none : drop n old ≡ [] = drop_all n old (omega arith) in
    record {
      same_length = refl;
      within = omega arith;
      front = refl;
      back = none ∙ sym (ap with_events none);
      ahead = sym (ap closings_before_event none);
      small = tt;
    }

-- one token adds at most one
few_more : (t : Turn) (closings : Option ℕ) (j k n : ℕ) → j + 1 ≡ k → k ≤ n → IfSome closings (λ m. m + k ≤ n) → IfSome (closings_at t closings) (λ m. m + j ≤ n)
few_more Event closings j k n e l h = omega arith
few_more Period closings j k n e l h = tt
few_more Opening None j k n e l h = tt
few_more Opening (Some m) j k n e l h = omega arith
few_more Closing None j k n e l h = tt
few_more Closing (Some m) j k n e l h = omega arith
few_more Joining None j k n e l h = tt
few_more Joining (Some m) j k n e l h = omega arith
few_more Arrow None j k n e l h = tt
few_more Arrow (Some m) j k n e l h = omega arith
few_more Other None j k n e l h = tt
few_more Other (Some m) j k n e l h = omega arith

pub marked_more : (old signs : List Sign) (closings next : Option ℕ) (k j : ℕ) (d x : Sign) (right : Bool) (t : Turn) → IsMarked old signs closings k → j + 1 ≡ k → right ≡ is_nought closings → t ≡ turn_of (get_or signs j d) → x ≡ with_opening right t (get_or signs j d) → next ≡ closings_at t closings → IsMarked old (slice_set signs j x) next j
unfolding with_events closings_before_event
marked_more old signs closings next k j d x right t m e b u v w =
    let s = get_or signs j d in
    let f : x ≡ with_opening (is_nought closings) (turn_of s) s = v ∙ ap₂ (λ r y. with_opening r y s) b u in
    let g : next ≡ closings_at (turn_of s) closings = w ∙ ap (λ y. closings_at y closings) u in
    let below : j < length signs = let w = m.within in omega arith in
    let inside : j < length old = let l = m.same_length in omega arith in
    let front : take (j + 1) signs ≡ take (j + 1) old = ap (λ n. take n signs) e ∙ (m.front ∙ ap (λ n. take n old) (sym e)) in
    let same : s ≡ get_or old j d = (sym (get_or-take (j + 1) signs j d (omega arith)) ∙ (ap (λ l. get_or l j d) front ∙ get_or-take (j + 1) old j d (omega arith))) in
    let here : drop j old ≡ s ∷ drop k old = drop_more old j d inside ∙ ap₂ (λ a n. a ∷ drop n old) (sym same) e in
    let told : x ≡ with_opening (has_event (drop k old)) (turn_of s) s = f ∙ ap (λ c. with_opening (is_nought c) (turn_of s) s) m.ahead in
    record {
      same_length = length-set signs j x ∙ m.same_length;
      within = let l = length-set signs j x in omega arith;
      front = take-set signs j x ∙ (sym (shorter signs) ∙ (ap (take j) front ∙ shorter old));
      back = drop-set signs j x below ∙ (ap₂ (λ a n. a ∷ drop n signs) told e ∙ (ap (λ l. with_opening (has_event (drop k old)) (turn_of s) s ∷ l) m.back ∙ sym (ap with_events here)));
      ahead = g ∙ (ap (closings_at (turn_of s)) m.ahead ∙ sym (ap closings_before_event here));
      small =
          let l = length-set signs j x in
          subst (λ c. IfSome c (λ n. n + j ≤ length (slice_set signs j x))) (sym g)
          (subst (λ n. IfSome (closings_at (turn_of s) closings) (λ c. c + j ≤ n)) (sym l) (few_more (turn_of s) closings j k (length signs) e m.within m.small));
    }
  where
    shorter : (l : List Sign) → take j (take (j + 1) l) ≡ take j l
    shorter l = take-take j (j + 1) l (omega arith)

pub marked_all : (old signs : List Sign) (closings : Option ℕ) (k : ℕ) → IsMarked old signs closings k → k ≡ 0 → signs ≡ with_events old
marked_all old signs closings k m e = ap (λ n. drop n signs) (sym e) ∙ (m.back ∙ ap (λ n. with_events (drop n old)) e)

-- the pass forwards: before a place each parenthesis is told, and what is left gives the rest
pub record IsSettled (old signs : List Sign) (place : Place) (k : ℕ) : Type 0 where
  pub same_length : length signs ≡ length old
  pub within : k ≤ length signs
  pub whole : take k signs ++ settled_from place (drop k signs) ≡ settled_from Outside old
  pub few : open_in place ≤ k

pub settled_begins : (old : List Sign) → IsSettled old old Outside 0
settled_begins old = record { same_length = refl; within = omega arith; whole = refl; few = omega arith }

-- one parenthesis more is open at most
in_atom_few : (depth k : ℕ) (t : Turn) → depth ≤ k → open_in (in_atom depth t) ≤ k + 1
in_atom_few depth k Event h = omega arith
in_atom_few depth k Period h = omega arith
in_atom_few depth k Opening h = omega arith
in_atom_few depth k Closing h = omega arith
in_atom_few zero k Joining h = omega arith
in_atom_few (suc depth) k Joining h = omega arith
in_atom_few depth k Arrow h = omega arith
in_atom_few depth k Other h = omega arith

behind_few : (place : Place) (k : ℕ) (t : Turn) → open_in place ≤ k → open_in (place_behind place t) ≤ k + 1
behind_few Outside k Event h = omega arith
behind_few Outside k Period h = omega arith
behind_few Outside k Opening h = omega arith
behind_few Outside k Closing h = omega arith
behind_few Outside k Joining h = omega arith
behind_few Outside k Arrow h = omega arith
behind_few Outside k Other h = omega arith
behind_few AtAtom k t h = in_atom_few 0 k t (omega arith)
behind_few (InAtom depth) k t h = in_atom_few depth k t h

next_few : (right : Bool) (place : Place) (k : ℕ) (t : Turn) → open_in place ≤ k → open_in (next_place right place t) ≤ k + 1
next_few true place k Opening h = omega arith
next_few true place k Event h = behind_few place k Event h
next_few true place k Period h = behind_few place k Period h
next_few true place k Closing h = behind_few place k Closing h
next_few true place k Joining h = behind_few place k Joining h
next_few true place k Arrow h = behind_few place k Arrow h
next_few true place k Other h = behind_few place k Other h
next_few false place k t h = behind_few place k t h

pub settled_more : (old signs : List Sign) (place next : Place) (k : ℕ) (d x : Sign) (right : Bool) (t : Turn) → IsSettled old signs place k → k < length signs → t ≡ turn_of (get_or signs k d) → right ≡ (is_at_atom place && is_for_atoms (get_or signs k d)) → x ≡ with_opening right t (get_or signs k d) → next ≡ next_place right place t → IsSettled old (slice_set signs k x) next (k + 1)
unfolding settled_from
settled_more old signs place next k d x right t m below u b v w =
    let s = get_or signs k d in
    let f : x ≡ with_opening right (turn_of s) s = v ∙ ap (λ y. with_opening right y s) u in
    let g : next ≡ next_place right place (turn_of s) = w ∙ ap (next_place right place) u in
    let here : drop k signs ≡ s ∷ drop (k + 1) signs = drop_more signs k d below in
    let rest : drop (k + 1) (slice_set signs k x) ≡ drop (k + 1) signs = drop-set-lt (k + 1) signs k x (omega arith) in
    let step : settled_from place (drop k signs) ≡ x ∷ settled_from next (drop (k + 1) signs) =
    ap (settled_from place) here
    ∙ (ap (λ r. with_opening r (turn_of s) s ∷ settled_from (next_place r place (turn_of s)) (drop (k + 1) signs)) (sym b)
    ∙ ap₂ (λ a p. a ∷ settled_from p (drop (k + 1) signs)) (sym f) (sym g))
    in
    record {
      same_length = length-set signs k x ∙ m.same_length;
      within = let l = length-set signs k x in omega arith;
      whole =
          ap₂ (λ l r. l ++ settled_from next r) (take_more_set signs k x below) rest
          ∙ (append_assoc (take k signs) (x ∷ []) (settled_from next (drop (k + 1) signs))
          ∙ (ap (λ l. take k signs ++ l) (sym step) ∙ m.whole));
      few = subst (λ p. open_in p ≤ k + 1) (sym g) (next_few right place k (turn_of s) m.few);
    }

pub settled_all : (old signs : List Sign) (place : Place) (k : ℕ) → IsSettled old signs place k → length signs ≤ k → signs ≡ settled_from Outside old
unfolding settled_from
settled_all old signs place k m h =
    let none : drop k signs ≡ [] = drop_all k signs h in
    sym (append-nil signs)
    ∙ (ap (λ l. l ++ []) (sym (take_all k signs h))
    ∙ (ap (λ l. take k signs ++ settled_from place l) (sym none) ∙ m.whole))

-- what stays

-- what both kinds of an opening parenthesis have, and a sign, the told sign has
pub kept : (P : Sign → Type 0) → P (sign.Mark mark.Open) → P (sign.Mark mark.OpenAtoms) → (right : Bool) (s : Sign) → P s → P (with_opening right (turn_of s) s)
kept P plain special right s h = go right (turn_of s) where
  go : (r : Bool) (t : Turn) → P (with_opening r t s)
  go true Opening = special
  go false Opening = plain
  go r Event = h
  go r Period = h
  go r Closing = h
  go r Joining = h
  go r Arrow = h
  go r Other = h

pub all_kept : (P : Sign → Type 0) → P (sign.Mark mark.Open) → P (sign.Mark mark.OpenAtoms) → (place : Place) (ss : List Sign) → AllByRecursion P ss → AllByRecursion P (openings_from place ss)
unfolding openings_from
all_kept P plain special place [] h = h
all_kept P plain special place (s ∷ ss) h = (kept P plain special (is_at_atom place && has_event ss) s h.0, all_kept P plain special (next_place (is_at_atom place && has_event ss) place (turn_of s)) ss h.1)

pub length_openings : (place : Place) (ss : List Sign) → length (openings_from place ss) ≡ length ss
unfolding openings_from
length_openings place [] = refl
length_openings place (s ∷ ss) = ap suc (length_openings (next_place (is_at_atom place && has_event ss) place (turn_of s)) ss)

-- each sign is told at its place
pub told_at : (place : Place) (ss : List Sign) (k : ℕ) (s : Sign) → slice_get ss k ≡ Some s → (right : Bool) × (slice_get (openings_from place ss) k ≡ Some (with_opening right (turn_of s) s))
unfolding openings_from
told_at place [] k s e = absurd (cc)
told_at place (t ∷ ss) zero s e = let i : t ≡ s = cc in (is_at_atom place && has_event ss, ap (λ u. Some (with_opening (is_at_atom place && has_event ss) (turn_of u) u)) i)
told_at place (t ∷ ss) (suc k) s e = told_at (next_place (is_at_atom place && has_event ss) place (turn_of t)) ss k s e

-- a sign that is no opening parenthesis stays
unopened : (right : Bool) (t : Turn) (s : Sign) → t ≢ Opening → with_opening right t s ≡ s
unopened right Opening s h = absurd (h refl)
unopened right t s h = refl

pub others_stay : (ss : List Sign) (k : ℕ) (s : Sign) → slice_get ss k ≡ Some s → turn_of s ≢ Opening → slice_get (with_openings ss) k ≡ Some s
others_stay ss k s e h =
    let x = told_at Outside ss k s e in
    x.1 ∙ ap (λ y. Some y) (unopened x.0 (turn_of s) s h)

-- without the arrow no parenthesis opens a right side

plain_opening : (m : Mark) → turn_of_mark m ≡ Opening → is_for_atoms (sign.Mark m) ≡ false → m ≡ mark.Open
plain_opening mark.Open e f = refl
plain_opening mark.OpenAtoms e f = absurd (cc)
plain_opening m e f = absurd (cc)

stays_plain : (s : Sign) → is_for_atoms s ≡ false → with_opening false (turn_of s) s ≡ s
stays_plain (sign.Mark m) f = go (turn_of_mark m) refl where
  go : (t : Turn) → turn_of_mark m ≡ t → with_opening false t (sign.Mark m) ≡ sign.Mark m
  go Opening e = ap (λ k. sign.Mark k) (sym (plain_opening m e f))
  go Event e = refl
  go Period e = refl
  go Closing e = refl
  go Joining e = refl
  go Arrow e = refl
  go Other e = refl
stays_plain s f = refl

stays_outside : (t : Turn) → (t ≡ Arrow → ⊥) → next_place false Outside t ≡ Outside
stays_outside Arrow h = absurd (h refl)
stays_outside t h = refl

pub without_arrows : (ss : List Sign) → AllByRecursion (λ s. turn_of s ≢ Arrow) ss → AllByRecursion (λ s. is_for_atoms s ≡ false) ss → with_openings ss ≡ ss
unfolding openings_from
without_arrows [] h f = refl
without_arrows (s ∷ ss) h f =
    ap₂ (λ a p. a ∷ openings_from p ss) (stays_plain s f.0) (stays_outside (turn_of s) h.0)
    ∙ ap (λ l. s ∷ l) (without_arrows ss h.1 f.1)

pub small_told : with_openings (small_right_side mark.Open) ≡ small_right_side mark.OpenAtoms
unfolding openings_from closings_before_event
small_told = refl
