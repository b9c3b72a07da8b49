-- The test of a broken correspondence and its sentence.
use Rattle.std.proofs.Common.{◌≡◌, ℕ, zero, suc, ◌+◌, Bool, true, false, cond, ◌||◌, ◌&&◌, not, ◌==◌, List, [], ◌∷◌, ◌++◌, map, zip, ◌⊎◌, inl, inr, Some, refl, sym, ap, subst, ◌∙◌, arith, eqb-true, eq-eqb, append_assoc, append-nil}
use Rattle.std.proofs.lemmas.Bool.{both_ways, and_parts, and_from, or_right}
use Rattle.std.specs.List.{list_any, list_all}
use Rattle.cv_syntax_trees.specs.Tree.{Tree}
use Rattle.cv_meaning.specs.Interpretation.{Setting}
use Rattle.cv_meaning.specs.Memory.{Happened, Indices, nowhere}
use Rattle.cv_meaning.specs.Terms.{value, values, is_one}
use Rattle.cv_meaning.specs.Candidates.{below}
use Rattle.cv_meaning.specs.Correspondences.{Correspondence, Atom, RightEvent, RightTerm, is_event, holds, assignments, left_values, is_left, can_hold, is_met, is_used, positions, ways}
use Rattle.cv_meaning_laws.proofs.Counts.{same_tuple_refl, same_tuple_exact}
use Rattle.cv_meaning_laws.proofs.Listed.{Has, has_left, has_right, has_map, has_flat_map}
use Rattle.cv_meaning_laws.specs.adequacy.Broken.{StandsAt, AreValues, query_values, right_event, Holds, HoldsWith, IsMarkedAt, IsMet, HasUnmet}
use Rattle.cv_meaning_laws.proofs.adequacy.Lists.{any_has, has_any, has_append, flat_map_has, map_has, stands_has, has_stands, contains_has, has_contains, all_stands, stands_all, below_has, has_below}
use Rattle.cv_syntax_trees.proofs.lists.Tests.{or_cases}

-- right events

event_exact : (g : Setting) (ρ : Indices) (f : ℕ) (ms : Tree) (e : Happened) → is_event g ρ f ms e ≡ true → e ≡ right_event g ρ f ms
event_exact g ρ f ms e h =
    let p = and_parts (e.event == f) _ h in
    λ i. record { event = eqb-true e.event f p.0 i; values = same_tuple_exact e.values (values g ρ nowhere ms) p.1 i }

event_itself : (g : Setting) (ρ : Indices) (f : ℕ) (ms : Tree) (e : Happened) → e ≡ right_event g ρ f ms → is_event g ρ f ms e ≡ true
event_itself g ρ f ms e h = ap (is_event g ρ f ms) h ∙ and_from (f == f) _ (eq-eqb f f refl) (same_tuple_refl (values g ρ nowhere ms))

holds_means : (g : Setting) (es : List Happened) (ρ : Indices) (a : Atom) → holds g es ρ a ≡ true → Holds g es ρ a
holds_means g es ρ (RightEvent inj f ms) h =
    let r = any_has (is_event g ρ f ms) es h in
    has_contains es _ (subst (Has es) (event_exact g ρ f ms r.0 r.2) r.1)
holds_means g es ρ (RightTerm m) h = eqb-true (value g ρ nowhere m) 1 h

means_holds : (g : Setting) (es : List Happened) (ρ : Indices) (a : Atom) → Holds g es ρ a → holds g es ρ a ≡ true
means_holds g es ρ (RightEvent inj f ms) h = has_any (is_event g ρ f ms) es _ (contains_has es _ h) (event_itself g ρ f ms _ refl)
means_holds g es ρ (RightTerm m) h = eq-eqb (value g ρ nowhere m) 1 h

-- values of the variables on the right alone

unfoldable pub names : List (ℕ × ℕ) → List ℕ → Indices
names xs vs = zip (map (λ (x : ℕ × ℕ). x.0) xs) vs

pub assigned_values : (g : Setting) (xs : List (ℕ × ℕ)) (ρ r : Indices) → Has (assignments g xs ρ) r → (vs : List ℕ) × AreValues g xs vs × (r ≡ ρ ++ names xs vs)
unfolding assignments names
assigned_values g [] ρ r (inl h) = ([], tt, h ∙ sym (append-nil ρ))
assigned_values g [] ρ r (inr h) = absurd h
assigned_values g (x ∷ xs) ρ r h =
    let p = flat_map_has (λ v. assignments g xs (ρ ++ (x.0, v) ∷ [])) (below (g.interpretation.type_size x.1)) r h in
    let q = assigned_values g xs (ρ ++ (x.0, p.0) ∷ []) r p.2 in
    (p.0 ∷ q.0, (below_has _ p.0 p.1, q.1), q.2 ∙ append_assoc ρ ((x.0, p.0) ∷ []) (names xs q.0))

pub values_assigned : (g : Setting) (xs : List (ℕ × ℕ)) (ρ : Indices) (vs : List ℕ) → AreValues g xs vs → Has (assignments g xs ρ) (ρ ++ names xs vs)
unfolding assignments names
values_assigned g [] ρ [] h = inl (append-nil ρ)
values_assigned g [] ρ (v ∷ vs) h = absurd h
values_assigned g (x ∷ xs) ρ [] h = absurd h
values_assigned g (x ∷ xs) ρ (v ∷ vs) h =
    subst (Has (assignments g (x ∷ xs) ρ)) (append_assoc ρ ((x.0, v) ∷ []) (names xs vs))
    (has_flat_map (λ w. assignments g xs (ρ ++ (x.0, w) ∷ [])) (below (g.interpretation.type_size x.1)) v _ (has_below _ v h.0) (values_assigned g xs (ρ ++ (x.0, v) ∷ []) vs h.1))

-- the plain form

pub met_means : (g : Setting) (q : Correspondence) (es : List Happened) (e : Happened) → is_met g q es e ≡ true → IsMet g q es e
unfolding names
met_means g q es e h =
    let o = any_has (can_hold g q es e) q.alternatives h in
    let r = any_has (λ ρ. list_all (λ (c : ℕ × Atom). holds g es ρ c.1) o.0) (assignments g q.others (left_values q e)) o.2 in
    let s = assigned_values g q.others (left_values q e) r.0 r.1 in
    record {
      alternative = o.0;
      is_alternative = has_contains q.alternatives o.0 o.1;
      others = s.0;
      are_values = s.1;
      hold = λ k n a x. subst (λ ρ. Holds g es ρ a) s.2 (holds_means g es r.0 a (all_stands (λ (c : ℕ × Atom). holds g es r.0 c.1) o.0 r.2 k (n, a) x));
    }

pub means_met : (g : Setting) (q : Correspondence) (es : List Happened) (e : Happened) → IsMet g q es e → is_met g q es e ≡ true
unfolding names
means_met g q es e h =
    has_any (can_hold g q es e) q.alternatives h.alternative (contains_has q.alternatives h.alternative h.is_alternative)
    (has_any (λ ρ. list_all (λ (c : ℕ × Atom). holds g es ρ c.1) h.alternative) (assignments g q.others (left_values q e)) (query_values q e h.others)
    (values_assigned g q.others (left_values q e) h.others h.are_values)
    (stands_all (λ (c : ℕ × Atom). holds g es (query_values q e h.others) c.1) h.alternative
    (λ k c x. means_holds g es (query_values q e h.others) c.1 (h.hold k c.0 c.1 x))))

unfoldable pub unmet : Setting → Correspondence → List Happened → Happened → Bool
unmet g q es e = is_left q e && not (is_met g q es e)

pub plain_means : (g : Setting) (q : Correspondence) (es : List Happened) → list_any (unmet g q es) es ≡ true → HasUnmet g q es
unfolding unmet
plain_means g q es h =
    let r = any_has (unmet g q es) es h in
    let s = has_stands es r.0 r.1 in
    let p = and_parts (is_left q r.0) _ r.2 in
    (s.0, r.0, (s.1, eqb-true r.0.event q.event p.0), λ m. both_ways (not (is_met g q es r.0)) (ap not (means_met g q es r.0 m)) p.1)

pub means_plain : (g : Setting) (q : Correspondence) (es : List Happened) → HasUnmet g q es → list_any (unmet g q es) es ≡ true
unfolding unmet
means_plain g q es h = has_any (unmet g q es) es h.1 (stands_has es h.0 h.1 h.2.0) (and_from (is_left q h.1) _ (eq-eqb h.1.event q.event h.2.1) (go (is_met g q es h.1) refl))
  where
    go : (b : Bool) → is_met g q es h.1 ≡ b → not b ≡ true
    go true e = absurd (h.3 (met_means g q es h.1 e))
    go false e = refl

-- the injective form: the positions of right events

positions_stand : (p : Happened → Bool) (k : ℕ) (es : List Happened) (r : ℕ) → Has (positions p k es) r → (i : ℕ) × (e : Happened) × (r ≡ k + i) × StandsAt es i e × (p e ≡ true)
unfolding positions
positions_stand p k [] r h = absurd h
positions_stand p k (e ∷ es) r h = go (p e) refl (has_append (cond (p e) (k ∷ []) []) _ r h) (positions_stand p (suc k) es r)
  where
    go : (b : Bool) → p e ≡ b → Has (cond b (k ∷ []) []) r ⊎ Has (positions p (suc k) es) r
        → (Has (positions p (suc k) es) r → (i : ℕ) × (d : Happened) × (r ≡ suc k + i) × StandsAt es i d × (p d ≡ true))
        → (i : ℕ) × (d : Happened) × (r ≡ k + i) × StandsAt (e ∷ es) i d × (p d ≡ true)
    go true x (inl (inl y)) ih = (zero, e, omega arith, refl, x)
    go true x (inl (inr y)) ih = absurd y
    go false x (inl y) ih = absurd y
    go b x (inr y) ih = let s = ih y in let at : r ≡ k + suc s.0 = let was : r ≡ suc k + s.0 = s.2 in omega arith in (suc s.0, s.1, at, s.3, s.4)

stand_positions : (p : Happened → Bool) (k : ℕ) (es : List Happened) (i r : ℕ) (e : Happened) → r ≡ k + i → StandsAt es i e → p e ≡ true → Has (positions p k es) r
unfolding positions
stand_positions p k [] i r e a s h = cc
stand_positions p k (d ∷ es) zero r e a s h =
    let same : d ≡ e = cc in
    let here : p d ≡ true = ap p same ∙ h in
    let at : r ≡ k = omega arith in
    has_left (cond (p d) (k ∷ []) []) _ r (subst (λ b. Has (cond b (k ∷ []) []) r) (sym here) (inl at))
stand_positions p k (d ∷ es) (suc i) r e a s h = has_right (cond (p d) (k ∷ []) []) _ r (stand_positions p (suc k) es i r e (omega arith) s h)

-- the ways for one left event

abbrev pub Used : Type 0
Used = List (ℕ × ℕ)

-- what is used after a left event whose atoms have these positions
unfoldable pub used_with : List (ℕ × Atom) → (ℕ → ℕ) → Used → Used
used_with [] at used = used
used_with ((n, RightEvent true f ms) ∷ atoms) at used = (n, at 0) ∷ used_with atoms (λ k. at (suc k)) used
used_with (c ∷ atoms) at used = used_with atoms (λ k. at (suc k)) used

abbrev pub AtomsHold : Setting → List Happened → Indices → List (ℕ × Atom) → (ℕ → ℕ) → Type 0
AtomsHold g es ρ atoms at = (k n : ℕ) (a : Atom) → StandsAt atoms k (n, a) → HoldsWith g es ρ (at k) a

-- no marked atom has a position that was used
abbrev pub Fresh : List (ℕ × Atom) → (ℕ → ℕ) → Used → Type 0
Fresh atoms at used = (k n : ℕ) → IsMarkedAt atoms k n → is_used used n (at k) ≡ false

abbrev with_first : ℕ → (ℕ → ℕ) → ℕ → ℕ
with_first p at zero = p
with_first p at (suc k) = at k

first_stands : (c : ℕ × Atom) (atoms : List (ℕ × Atom)) (d : ℕ × Atom) → StandsAt (c ∷ atoms) zero d → (c.0 ≡ d.0) × (c.1 ≡ d.1)
first_stands c atoms d s = let same : c ≡ d = cc in (ap (λ (z : ℕ × Atom). z.0) same, ap (λ (z : ℕ × Atom). z.1) same)

-- a mark in a list and behind another first atom

marked_later : (c : ℕ × Atom) (atoms : List (ℕ × Atom)) (k n : ℕ) → IsMarkedAt atoms k n → IsMarkedAt (c ∷ atoms) (suc k) n
marked_later c atoms k n m = record { event = m.event; arguments = m.arguments; stands = m.stands }

marked_behind : (c : ℕ × Atom) (atoms : List (ℕ × Atom)) (k n : ℕ) → IsMarkedAt (c ∷ atoms) (suc k) n → IsMarkedAt atoms k n
marked_behind c atoms k n m = record { event = m.event; arguments = m.arguments; stands = m.stands }

pub used_kept : (atoms : List (ℕ × Atom)) (at : ℕ → ℕ) (used : Used) (m p : ℕ) → is_used used m p ≡ true → is_used (used_with atoms at used) m p ≡ true
unfolding used_with
used_kept [] at used m p h = h
used_kept ((n, RightEvent true f ms) ∷ atoms) at used m p h = or_right ((n == m) && (at 0 == p)) _ (used_kept atoms (λ k. at (suc k)) used m p h)
used_kept ((n, RightEvent false f ms) ∷ atoms) at used m p h = used_kept atoms (λ k. at (suc k)) used m p h
used_kept ((n, RightTerm t) ∷ atoms) at used m p h = used_kept atoms (λ k. at (suc k)) used m p h

used_here : (n m p r : ℕ) (used : Used) → n ≡ m → p ≡ r → is_used ((n, p) ∷ used) m r ≡ true
used_here n m p r used a b = ap (λ x. x || is_used used m r) (and_from (n == m) (p == r) (eq-eqb n m a) (eq-eqb p r b))

pub used_new : (atoms : List (ℕ × Atom)) (at : ℕ → ℕ) (used : Used) (k m : ℕ) → IsMarkedAt atoms k m → is_used (used_with atoms at used) m (at k) ≡ true
unfolding used_with
used_new [] at used k m h = none (h.stands)
  where
    none : {x : ℕ × Atom} → StandsAt [] k x → is_used used m (at k) ≡ true
    none s = cc
used_new ((n, RightEvent true f ms) ∷ atoms) at used zero m h =
    used_here n m (at 0) (at 0) (used_with atoms (λ k. at (suc k)) used) (same h.event h.arguments h.stands) refl
  where
    same : (e : ℕ) (a : Tree) → StandsAt ((n, RightEvent true f ms) ∷ atoms) zero (m, RightEvent true e a) → n ≡ m
    same e a s = (first_stands (n, RightEvent true f ms) atoms (m, RightEvent true e a) s).0
used_new ((n, RightEvent true f ms) ∷ atoms) at used (suc k) m h =
    or_right ((n == m) && (at 0 == at (suc k))) _ (used_new atoms (λ k. at (suc k)) used k m (marked_behind (n, RightEvent true f ms) atoms k m h))
used_new ((n, RightEvent false f ms) ∷ atoms) at used (suc k) m h = used_new atoms (λ k. at (suc k)) used k m (marked_behind (n, RightEvent false f ms) atoms k m h)
used_new ((n, RightEvent false f ms) ∷ atoms) at used zero m h = absurd (clash h.event h.arguments h.stands)
  where
    clash : (e : ℕ) (a : Tree) → StandsAt ((n, RightEvent false f ms) ∷ atoms) zero (m, RightEvent true e a) → ⊥
    clash e a s = let other : RightEvent false f ms ≡ RightEvent true e a = (first_stands (n, RightEvent false f ms) atoms (m, RightEvent true e a) s).1 in cc
used_new ((n, RightTerm t) ∷ atoms) at used (suc k) m h = used_new atoms (λ k. at (suc k)) used k m (marked_behind (n, RightTerm t) atoms k m h)
used_new ((n, RightTerm t) ∷ atoms) at used zero m h = absurd (clash h.event h.arguments h.stands)
  where
    clash : (e : ℕ) (a : Tree) → StandsAt ((n, RightTerm t) ∷ atoms) zero (m, RightEvent true e a) → ⊥
    clash e a s = let other : RightTerm t ≡ RightEvent true e a = (first_stands (n, RightTerm t) atoms (m, RightEvent true e a) s).1 in cc

-- what is used afterwards was used before, or by an atom of the list
abbrev pub IsUsedBy : List (ℕ × Atom) → (ℕ → ℕ) → Used → (number position : ℕ) → Type 0
IsUsedBy atoms at used m p = (is_used used m p ≡ true) ⊎ ((k : ℕ) × IsMarkedAt atoms k m × (p ≡ at k))

later : (c : ℕ × Atom) (atoms : List (ℕ × Atom)) (at : ℕ → ℕ) (used : Used) (m p : ℕ) → IsUsedBy atoms (λ k. at (suc k)) used m p → IsUsedBy (c ∷ atoms) at used m p
later c atoms at used m p (inl x) = inl x
later c atoms at used m p (inr x) = inr (suc x.0, marked_later c atoms x.0 m x.1, x.2)

pub used_only : (atoms : List (ℕ × Atom)) (at : ℕ → ℕ) (used : Used) (m p : ℕ) → is_used (used_with atoms at used) m p ≡ true → IsUsedBy atoms at used m p
unfolding used_with
used_only [] at used m p h = inl h
used_only ((n, RightEvent true f ms) ∷ atoms) at used m p h = go (or_cases ((n == m) && (at 0 == p)) _ h) (used_only atoms (λ k. at (suc k)) used m p)
  where
    go : ((n == m) && (at 0 == p) ≡ true) ⊎ (is_used (used_with atoms (λ k. at (suc k)) used) m p ≡ true)
        → (is_used (used_with atoms (λ k. at (suc k)) used) m p ≡ true → IsUsedBy atoms (λ k. at (suc k)) used m p) → IsUsedBy ((n, RightEvent true f ms) ∷ atoms) at used m p
    go (inl y) ih =
        let r = and_parts (n == m) _ y in
        let same : n ≡ m = eqb-true n m r.0 in
        inr (zero, record { event = f; arguments = ms; stands = ap (λ j. Some (j, RightEvent true f ms)) same }, sym (eqb-true (at 0) p r.1))
    go (inr y) ih = later (n, RightEvent true f ms) atoms at used m p (ih y)
used_only ((n, RightEvent false f ms) ∷ atoms) at used m p h = later (n, RightEvent false f ms) atoms at used m p (used_only atoms (λ k. at (suc k)) used m p h)
used_only ((n, RightTerm t) ∷ atoms) at used m p h = later (n, RightTerm t) atoms at used m p (used_only atoms (λ k. at (suc k)) used m p h)

-- a way is a choice of positions

pub record Way (g : Setting) (es : List Happened) (ρ : Indices) (atoms : List (ℕ × Atom)) (used after : Used) : Type 0 where
  pub at : ℕ → ℕ
  pub hold : AtomsHold g es ρ atoms at
  pub fresh : Fresh atoms at used
  pub after_is : after ≡ used_with atoms at used

cons_hold : (g : Setting) (es : List Happened) (ρ : Indices) (n : ℕ) (a : Atom) (atoms : List (ℕ × Atom)) (p : ℕ) (at : ℕ → ℕ) → HoldsWith g es ρ p a → AtomsHold g es ρ atoms at → AtomsHold g es ρ ((n, a) ∷ atoms) (with_first p at)
cons_hold g es ρ n a atoms p at h hs zero m b s = subst (HoldsWith g es ρ p) (first_stands (n, a) atoms (m, b) s).1 h
cons_hold g es ρ n a atoms p at h hs (suc k) m b s = hs k m b s

cons_fresh : (n : ℕ) (a : Atom) (atoms : List (ℕ × Atom)) (p : ℕ) (at : ℕ → ℕ) (used : Used) → ((f : ℕ) (ms : Tree) → a ≡ RightEvent true f ms → is_used used n p ≡ false) → Fresh atoms at used → Fresh ((n, a) ∷ atoms) (with_first p at) used
cons_fresh n a atoms p at used h hs zero m s = here s.event s.arguments s.stands
  where
    here : (f : ℕ) (ms : Tree) → StandsAt ((n, a) ∷ atoms) zero (m, RightEvent true f ms) → is_used used m p ≡ false
    here f ms x = let same = first_stands (n, a) atoms (m, RightEvent true f ms) x in subst (λ j. is_used used j p ≡ false) same.0 (h f ms same.1)
cons_fresh n a atoms p at used h hs (suc k) m s = hs k m (marked_behind (n, a) atoms k m s)

pub ways_sound : (g : Setting) (es : List Happened) (ρ : Indices) (used : Used) (atoms : List (ℕ × Atom)) (after : Used) → Has (ways g es ρ used atoms) after → Way g es ρ atoms used after
unfolding ways used_with
ways_sound g es ρ used [] after (inl h) = record { at = λ k. 0; hold = λ k n a s. cc; fresh = none; after_is = h }
  where
    none : Fresh [] (λ k. 0) used
    none k n m = empty m.stands
      where
        empty : {x : ℕ × Atom} → StandsAt [] k x → is_used used n 0 ≡ false
        empty s = cc
ways_sound g es ρ used [] after (inr h) = absurd h
ways_sound g es ρ used ((n, RightTerm t) ∷ atoms) after h = go (is_one (value g ρ nowhere t)) refl h (ways_sound g es ρ used atoms after)
  where
    go : (b : Bool) → is_one (value g ρ nowhere t) ≡ b → Has (cond b (ways g es ρ used atoms) []) after → (Has (ways g es ρ used atoms) after → Way g es ρ atoms used after) → Way g es ρ ((n, RightTerm t) ∷ atoms) used after
    go true x k ih = let w = ih k in
        record {
          at = with_first 0 w.at;
          hold = cons_hold g es ρ n (RightTerm t) atoms 0 w.at (eqb-true (value g ρ nowhere t) 1 x) w.hold;
          fresh = cons_fresh n (RightTerm t) atoms 0 w.at used (λ f ms e. cc) w.fresh;
          after_is = w.after_is;
        }
    go false x k ih = absurd k
ways_sound g es ρ used ((n, RightEvent false f ms) ∷ atoms) after h =
    let r = flat_map_has (λ p. map (λ (u : Used). u) (ways g es ρ used atoms)) (positions (is_event g ρ f ms) 0 es) after h in
    let s = positions_stand (is_event g ρ f ms) 0 es r.0 r.1 in
    let u = map_has (λ (u : Used). u) (ways g es ρ used atoms) after r.2 in
    let w = ways_sound g es ρ used atoms u.0 u.1 in
    record {
      at = with_first 0 w.at;
      hold = cons_hold g es ρ n (RightEvent false f ms) atoms 0 w.at (has_contains es _ (stands_has es s.0 _ (s.3 ∙ ap Some (event_exact g ρ f ms s.1 s.4)))) w.hold;
      fresh = cons_fresh n (RightEvent false f ms) atoms 0 w.at used (λ f ms e. cc) w.fresh;
      after_is = u.2 ∙ w.after_is;
    }
ways_sound g es ρ used ((n, RightEvent true f ms) ∷ atoms) after h =
    let r = flat_map_has (λ p. cond (is_used used n p) [] (map (λ (u : Used). (n, p) ∷ u) (ways g es ρ used atoms))) (positions (is_event g ρ f ms) 0 es) after h in
    let s = positions_stand (is_event g ρ f ms) 0 es r.0 r.1 in
    go r.0 s.1 (let e : r.0 ≡ s.0 = omega (arith, s.2) in subst (λ z. StandsAt es z s.1) (sym e) s.3) s.4 (is_used used n r.0) refl r.2 (ways_sound g es ρ used atoms)
  where
    go : (p : ℕ) (e : Happened) → StandsAt es p e → is_event g ρ f ms e ≡ true → (b : Bool) → is_used used n p ≡ b → Has (cond b [] (map (λ (u : Used). (n, p) ∷ u) (ways g es ρ used atoms))) after
        → ((u : Used) → Has (ways g es ρ used atoms) u → Way g es ρ atoms used u) → Way g es ρ ((n, RightEvent true f ms) ∷ atoms) used after
    go p e s i true x k ih = absurd k
    go p e s i false x k ih =
        let u = map_has (λ (u : Used). (n, p) ∷ u) (ways g es ρ used atoms) after k in
        let w = ih u.0 u.1 in
        record {
          at = with_first p w.at;
          hold = cons_hold g es ρ n (RightEvent true f ms) atoms p w.at (s ∙ ap Some (event_exact g ρ f ms e i)) w.hold;
          fresh = cons_fresh n (RightEvent true f ms) atoms p w.at used (λ f ms e. x) w.fresh;
          after_is = u.2 ∙ ap (λ (z : Used). (n, p) ∷ z) w.after_is;
        }

-- the same atoms behind the first one
fresh_later : (c : ℕ × Atom) (atoms : List (ℕ × Atom)) (at : ℕ → ℕ) (used : Used) → Fresh (c ∷ atoms) at used → Fresh atoms (λ k. at (suc k)) used
fresh_later c atoms at used h k n m = h (suc k) n (marked_later c atoms k n m)

pub ways_complete : (g : Setting) (es : List Happened) (ρ : Indices) (used : Used) (atoms : List (ℕ × Atom)) (at : ℕ → ℕ) → AtomsHold g es ρ atoms at → Fresh atoms at used → Has (ways g es ρ used atoms) (used_with atoms at used)
unfolding ways used_with
ways_complete g es ρ used [] at h u = inl refl
ways_complete g es ρ used ((n, RightTerm t) ∷ atoms) at h u =
    subst (λ b. Has (cond b (ways g es ρ used atoms) []) (used_with atoms (λ k. at (suc k)) used)) (sym (eq-eqb (value g ρ nowhere t) 1 (h zero n (RightTerm t) refl)))
    (ways_complete g es ρ used atoms (λ k. at (suc k)) (λ k. h (suc k)) (fresh_later (n, RightTerm t) atoms at used u))
ways_complete g es ρ used ((n, RightEvent false f ms) ∷ atoms) at h u =
    let s = has_stands es (right_event g ρ f ms) (contains_has es _ (h zero n (RightEvent false f ms) refl)) in
    has_flat_map (λ p. map (λ (u : Used). u) (ways g es ρ used atoms)) (positions (is_event g ρ f ms) 0 es) s.0 _
    (stand_positions (is_event g ρ f ms) 0 es s.0 s.0 _ (omega arith) s.1 (event_itself g ρ f ms _ refl))
    (has_map (λ (u : Used). u) (ways g es ρ used atoms) (used_with atoms (λ k. at (suc k)) used)
    (ways_complete g es ρ used atoms (λ k. at (suc k)) (λ k. h (suc k)) (fresh_later (n, RightEvent false f ms) atoms at used u)))
ways_complete g es ρ used ((n, RightEvent true f ms) ∷ atoms) at h u =
    let s : StandsAt es (at 0) (right_event g ρ f ms) = h zero n (RightEvent true f ms) refl in
    has_flat_map (λ p. cond (is_used used n p) [] (map (λ (u : Used). (n, p) ∷ u) (ways g es ρ used atoms))) (positions (is_event g ρ f ms) 0 es) (at 0) _
    (stand_positions (is_event g ρ f ms) 0 es (at 0) (at 0) _ (omega arith) s (event_itself g ρ f ms _ refl))
    (subst (λ b. Has (cond b [] (map (λ (u : Used). (n, at 0) ∷ u) (ways g es ρ used atoms))) ((n, at 0) ∷ used_with atoms (λ k. at (suc k)) used)) (sym (u zero n (record { event = f; arguments = ms; stands = refl })))
    (has_map (λ (u : Used). (n, at 0) ∷ u) (ways g es ρ used atoms) (used_with atoms (λ k. at (suc k)) used)
    (ways_complete g es ρ used atoms (λ k. at (suc k)) (λ k. h (suc k)) (fresh_later (n, RightEvent true f ms) atoms at used u))))
