-- What is found from the first line on is what may be cited.
use Rattle.std.proofs.Common.{◌≡◌, ℕ, ◌+◌, ◌<◌, ◌≤◌, Bool, true, false, Option, Some, None, refl, sym, ap, ap₂, ◌∙◌, arith, lt-ltb, le-ltb, eq-eqb, ne_eqb}
use Rattle.std.specs.Prelude.{◌==◌, nat_lt, if◌then◌else◌}
use Rattle.std.proofs.Math.Path.{fun_ext}
use Rattle.cv_syntax_trees.specs.declared.head.Head.TheVariants.{Not}
use Rattle.cv_syntax_trees.specs.Tree.{Tree, Empty, Node}
use Rattle.cv_syntax_trees.specs.sites.Sites.{first_of}
use Rattle.cv_scene.specs.Derivations.{first_bad, first_bad_line, is_right_split, nothing_visible, unless, with_line}
use Rattle.cv_scene.specs.lines.Inferences.{Visible}
use Rattle.cv_scene.specs.lines.Lines.{Lines, End, By, Cases, Statement, Holds, count, lines_of}
use Rattle.cv_scene.specs.Reasons.{is_right}
use Rattle.cv_scene.specs.Sights.{Sight}
use Rattle.cv_derive_lines.specs.citing.Citing.{cited_from}
use Rattle.cv_derive.specs.Searching.{first_bad_in}
use Rattle.cv_directory.proofs.Entries.{first_nothing, first_assoc}

-- options

or_then : {A : Type 0} (b : Bool) (a : A) (o : Option A) → (if b then Some a else o) ≡ first_of (if b then Some a else None) o
or_then true a o = refl
or_then false a o = refl

-- one line

count_by : (t : Statement) (r : Tree) (rest : Lines) → count (By t r rest) ≡ 1 + count rest
unfolding count
count_by t r rest = refl

by_itself : (t : Statement) (r : Tree) (rest : Lines) (n l : ℕ) → cited_from (By t r rest) n n l ≡ None
unfolding cited_from
by_itself t r rest n l = ap (λ b. if b then None else (if n == l then Some t else cited_from rest (n + 1) n l)) (eq-eqb n n refl)

by_behind : (t : Statement) (r : Tree) (rest : Lines) (s n l : ℕ) → s < n → cited_from (By t r rest) s n l ≡ first_of (if s == l then Some t else None) (cited_from rest (s + 1) n l)
unfolding cited_from
by_behind t r rest s n l lt =
    let ne : s ≡ n → ⊥ = λ e. let k : s < n = lt in omega arith in
    ap (λ b. if b then None else (if s == l then Some t else cited_from rest (s + 1) n l)) (ne_eqb s n ne) ∙ or_then (s == l) t (cited_from rest (s + 1) n l)

-- a line by cases

module _ (c : Tree) (d e : Lines) (t : Tree) (rest : Lines) (s n l : ℕ) where
  abbrev middle : ℕ
  middle = s + count d

  abbrev end : ℕ
  end = middle + count e

  abbrev behind : Option Statement
  behind = if end == l then Some (Holds t) else cited_from rest (end + 1) n l

  abbrev further : Option Statement
  further = if end == n then None else behind

  abbrev second : Option Statement
  second = if nat_lt n end then cited_from e middle n l else further

  open_cases : cited_from (Cases c d e t rest) s n l ≡ (if nat_lt n middle then cited_from d s n l else second)
  unfolding cited_from
  open_cases = refl

  in_first : n < middle → cited_from (Cases c d e t rest) s n l ≡ cited_from d s n l
  in_first lt = open_cases ∙ ap (λ b. if b then cited_from d s n l else second) (lt-ltb n middle lt)

  past_first : middle ≤ n → cited_from (Cases c d e t rest) s n l ≡ second
  past_first le = open_cases ∙ ap (λ b. if b then cited_from d s n l else second) (le-ltb n middle le)

  in_second : middle ≤ n → n < end → cited_from (Cases c d e t rest) s n l ≡ cited_from e middle n l
  in_second le lt = past_first le ∙ ap (λ b. if b then cited_from e middle n l else further) (lt-ltb n end lt)

  in_rest : end < n → cited_from (Cases c d e t rest) s n l ≡ first_of (if end == l then Some (Holds t) else None) (cited_from rest (end + 1) n l)
  in_rest lt =
      let le : middle ≤ n = omega arith in
      let m : end ≤ n = omega arith in
      let ne : end ≡ n → ⊥ = λ f. let k : end < n = lt in omega arith in
      past_first le
      ∙ (ap (λ b. if b then cited_from e middle n l else further) (le-ltb n end m)
      ∙ (ap (λ b. if b then None else behind) (ne_eqb end n ne) ∙ or_then (end == l) (Holds t) (cited_from rest (end + 1) n l)))

count_cases : (c : Tree) (d e : Lines) (t : Tree) (rest : Lines) → count (Cases c d e t rest) ≡ count d + count e + 1 + count rest
unfolding count
count_cases c d e t rest = refl

-- what is found from the first of all lines on, from a line of these on: what was visible before, and what stands between

abbrev Sees : (all : Lines) → Visible → (s : ℕ) → Lines → Type 0
Sees all v s ls = (n l : ℕ) → s ≤ n → n < s + count ls → cited_from all 1 n l ≡ first_of (v l) (cited_from ls s n l)

module _ (all : Lines) where
  same_visible : (v : Visible) (s : ℕ) (t : Statement) (r : Tree) (rest : Lines) → Sees all v s (By t r rest) → v ≡ cited_from all 1 s
  same_visible v s t r rest sees = sym (fun_ext (λ l. let k = count_by t r rest in sees s l (omega arith) (omega (arith, k)) ∙ (ap (first_of (v l)) (by_itself t r rest s l) ∙ first_nothing (v l))))

  behind_line : (v : Visible) (s : ℕ) (t : Statement) (r : Tree) (rest : Lines) → Sees all v s (By t r rest) → Sees all (with_line v s t) (s + 1) rest
  behind_line v s t r rest sees n l le lt =
      let k = count_by t r rest in
      sees n l (omega arith) (omega (arith, k)) ∙ (ap (first_of (v l)) (by_behind t r rest s n l (omega arith)) ∙ sym (first_assoc (v l) (if s == l then Some t else None) (cited_from rest (s + 1) n l)))

  module _ (v : Visible) (s : ℕ) (c : Tree) (d e : Lines) (t : Tree) (rest : Lines) (sees : Sees all v s (Cases c d e t rest)) where
    within_first : Sees all v s d
    within_first n l le lt =
        let k = count_cases c d e t rest in
        sees n l le (omega (arith, k)) ∙ ap (first_of (v l)) (in_first c d e t rest s n l lt)

    within_second : Sees all v (s + count d) e
    within_second n l le lt =
        let k = count_cases c d e t rest in
        sees n l (omega arith) (omega (arith, k)) ∙ ap (first_of (v l)) (in_second c d e t rest s n l le lt)

    behind_cases : Sees all (with_line v (s + count d + count e) (Holds t)) (s + count d + count e + 1) rest
    behind_cases n l le lt =
        let k = count_cases c d e t rest in
        let m : s + count d + count e < n = omega arith in
        sees n l (omega arith) (omega (arith, k)) ∙ (ap (first_of (v l)) (in_rest c d e t rest s n l m) ∙ sym (first_assoc (v l) (if (s + count d + count e) == l then Some (Holds t) else None) (cited_from rest (s + count d + count e + 1) n l)))

  pub searched : (s : Sight) (g : Tree) (v : Visible) (n : ℕ) (ls : Lines) → Sees all v n ls → first_bad s g v n ls ≡ first_bad_in all s g n ls
  unfolding first_bad first_bad_in
  searched s g v n End sees = refl
  searched s g v n (By t r rest) sees = ap₂ (λ w o. first_of (unless (is_right s g w t r) n) o) (same_visible v n t r rest sees) (searched s g (with_line v n t) (n + 1) rest (behind_line v n t r rest sees))
  searched s g v n (Cases c d e t rest) sees =
      ap₂ first_of (searched s c v n d (within_first v n c d e t rest sees))
      (ap₂ first_of (searched s (Node Not c Empty) v (n + count d) e (within_second v n c d e t rest sees))
      (ap (first_of (unless (is_right_split s c d e t) (n + count d + count e))) (searched s g (with_line v (n + count d + count e) (Holds t)) (n + count d + count e + 1) rest (behind_cases v n c d e t rest sees))))

pub seen_from_first : (s : Sight) (by : Tree) → first_bad_line s by ≡ first_bad_in (lines_of by) s Empty 1 (lines_of by)
seen_from_first s by = searched (lines_of by) s Empty nothing_visible 1 (lines_of by) (λ n l le lt. refl)
