-- One choice for all left events, and the test of a broken correspondence.
use Rattle.std.proofs.Common.{◌≡◌, ℕ, zero, suc, Bool, true, false, cond, not, List, [], ◌∷◌, flat_map, inl, inr, refl, sym, ap, subst, ◌∙◌, arith, eqb-true, eq-eqb}
use Rattle.std.proofs.lemmas.Bool.{both_ways}
use Rattle.std.specs.Prelude.{◌↔◌, MatchBool}
use Rattle.std.specs.List.{Contains, list_any}
use Rattle.cv_meaning.specs.Interpretation.{Setting}
use Rattle.cv_meaning.specs.Memory.{Happened}
use Rattle.cv_meaning.specs.Correspondences.{Correspondence, Atom, assignments, left_values, is_left, is_met, is_used, ways, ways_for, can_match, broken}
use Rattle.cv_meaning_laws.proofs.Listed.{has_flat_map}
use Rattle.cv_meaning_laws.specs.adequacy.Broken.{AreValues, query_values, IsLeftAt, IsMarkedAt, IsMet, AllMet, HasUnmet, Choice, HasMatching, IsKept, IsBroken}
use Rattle.cv_meaning_laws.proofs.adequacy.Lists.{any_has, has_any, flat_map_has, contains_has, has_contains}
use Rattle.cv_meaning_laws.proofs.adequacy.Breaking.{names, assigned_values, values_assigned, unmet, met_means, means_met, plain_means, means_plain, Used, IsUsedBy, used_with, used_kept, used_new, used_only, AtomsHold, Fresh, Way, ways_sound, ways_complete}
use Rattle.cv_syntax_trees.proofs.lists.Tests.{false_from}

-- a choice for some left events, with positions that were used before
pub record Matches (g : Setting) (q : Correspondence) (es lefts : List Happened) (used : Used) (c : Choice) : Type 0 where
  pub are_alternatives : (i : ℕ) (e : Happened) → IsLeftAt q lefts i e → Contains q.alternatives (c.alternative i)
  pub are_values : (i : ℕ) (e : Happened) → IsLeftAt q lefts i e → AreValues g q.others (c.others i)
  pub hold : (i : ℕ) (e : Happened) → IsLeftAt q lefts i e → AtomsHold g es (query_values q e (c.others i)) (c.alternative i) (c.position i)
  pub injective : (i j : ℕ) (d e : Happened) → IsLeftAt q lefts i d → IsLeftAt q lefts j e → (k m n : ℕ) → IsMarkedAt (c.alternative i) k n → IsMarkedAt (c.alternative j) m n → c.position i k ≡ c.position j m → i ≡ j
  pub fresh : (i : ℕ) (e : Happened) → IsLeftAt q lefts i e → Fresh (c.alternative i) (c.position i) used

abbrev HasMatches : Setting → Correspondence → List Happened → List Happened → Used → Type 0
HasMatches g q es lefts used = (c : Choice) × Matches g q es lefts used c

abbrev before : {A : Type 0} → A → (ℕ → A) → ℕ → A
before x f zero = x
before x f (suc i) = f i

with_left : List (ℕ × Atom) → List ℕ → (ℕ → ℕ) → Choice → Choice
with_left atoms vs at c = record { alternative = before atoms c.alternative; others = before vs c.others; position = before at c.position }

skipped : (g : Setting) (q : Correspondence) (es : List Happened) (e : Happened) (lefts : List Happened) (used : Used) → is_left q e ≡ false → HasMatches g q es lefts used → HasMatches g q es (e ∷ lefts) used
unfolding with_left
skipped g q es e lefts used off (c, m) = (with_left [] [] (λ k. 0) c, record { are_alternatives = alternatives; are_values = values; hold = hold; injective = injective; fresh = fresh })
  where
    none : {X : Type 0} (d : Happened) → IsLeftAt q (e ∷ lefts) zero d → X
    none d s = let same : e ≡ d = cc (s.0) in absurd (both_ways _ off (eq-eqb e.event q.event (ap (λ x. x.event) same ∙ s.1)))

    alternatives : (i : ℕ) (d : Happened) → IsLeftAt q (e ∷ lefts) i d → Contains q.alternatives (before [] c.alternative i)
    alternatives zero d s = none d s
    alternatives (suc i) d s = m.are_alternatives i d s

    values : (i : ℕ) (d : Happened) → IsLeftAt q (e ∷ lefts) i d → AreValues g q.others (before [] c.others i)
    values zero d s = none d s
    values (suc i) d s = m.are_values i d s

    hold : (i : ℕ) (d : Happened) → IsLeftAt q (e ∷ lefts) i d → AtomsHold g es (query_values q d (before [] c.others i)) (before [] c.alternative i) (before (λ k. 0) c.position i)
    hold zero d s = none d s
    hold (suc i) d s = m.hold i d s

    injective : (i j : ℕ) (b d : Happened) → IsLeftAt q (e ∷ lefts) i b → IsLeftAt q (e ∷ lefts) j d → (k l n : ℕ) → IsMarkedAt (before [] c.alternative i) k n → IsMarkedAt (before [] c.alternative j) l n → before (λ k. 0) c.position i k ≡ before (λ k. 0) c.position j l → i ≡ j
    injective zero j b d r s k l n x y z = none b r
    injective (suc i) zero b d r s k l n x y z = none d s
    injective (suc i) (suc j) b d r s k l n x y z = ap suc (m.injective i j b d r s k l n x y z)

    fresh : (i : ℕ) (d : Happened) → IsLeftAt q (e ∷ lefts) i d → Fresh (before [] c.alternative i) (before (λ k. 0) c.position i) used
    fresh zero d s = none d s
    fresh (suc i) d s = m.fresh i d s

taken : (g : Setting) (q : Correspondence) (es : List Happened) (e : Happened) (lefts : List Happened) (used after : Used) (atoms : List (ℕ × Atom)) (vs : List ℕ) → Contains q.alternatives atoms → AreValues g q.others vs → Way g es (query_values q e vs) atoms used after → HasMatches g q es lefts after → HasMatches g q es (e ∷ lefts) used
unfolding with_left
taken g q es e lefts used after atoms vs one ok w (c, m) = (with_left atoms vs w.at c, record { are_alternatives = alternatives; are_values = values; hold = hold; injective = injective; fresh = fresh })
  where
    alternatives : (i : ℕ) (d : Happened) → IsLeftAt q (e ∷ lefts) i d → Contains q.alternatives (before atoms c.alternative i)
    alternatives zero d s = one
    alternatives (suc i) d s = m.are_alternatives i d s

    values : (i : ℕ) (d : Happened) → IsLeftAt q (e ∷ lefts) i d → AreValues g q.others (before vs c.others i)
    values zero d s = ok
    values (suc i) d s = m.are_values i d s

    hold : (i : ℕ) (d : Happened) → IsLeftAt q (e ∷ lefts) i d → AtomsHold g es (query_values q d (before vs c.others i)) (before atoms c.alternative i) (before w.at c.position i)
    hold zero d s = let same : e ≡ d = cc (s.0) in subst (λ x. AtomsHold g es (query_values q x vs) atoms w.at) same w.hold
    hold (suc i) d s = m.hold i d s

    apart : (j k l n : ℕ) (d : Happened) → IsLeftAt q lefts j d → IsMarkedAt atoms k n → IsMarkedAt (c.alternative j) l n → w.at k ≡ c.position j l → ⊥
    apart j k l n d s x y z =
        both_ways _ (m.fresh j d s l n y)
        (subst (λ u. is_used u n (c.position j l) ≡ true) (sym w.after_is)
        (subst (λ p. is_used (used_with atoms w.at used) n p ≡ true) z (used_new atoms w.at used k n x)))

    injective : (i j : ℕ) (b d : Happened) → IsLeftAt q (e ∷ lefts) i b → IsLeftAt q (e ∷ lefts) j d → (k l n : ℕ) → IsMarkedAt (before atoms c.alternative i) k n → IsMarkedAt (before atoms c.alternative j) l n → before w.at c.position i k ≡ before w.at c.position j l → i ≡ j
    injective zero zero b d r s k l n x y z = refl
    injective zero (suc j) b d r s k l n x y z = absurd (apart j k l n d s x y z)
    injective (suc i) zero b d r s k l n x y z = absurd (apart i l k n b r y x (sym z))
    injective (suc i) (suc j) b d r s k l n x y z = ap suc (m.injective i j b d r s k l n x y z)

    fresh : (i : ℕ) (d : Happened) → IsLeftAt q (e ∷ lefts) i d → Fresh (before atoms c.alternative i) (before w.at c.position i) used
    fresh zero d s k n x = w.fresh k n x
    fresh (suc i) d s k n x =
        false_from (is_used used n (c.position i k)) _ (λ u. subst (λ z. is_used z n (c.position i k) ≡ true) (sym w.after_is) (used_kept atoms w.at used n (c.position i k) u))
        (m.fresh i d s k n x)

match_sound : (g : Setting) (q : Correspondence) (es lefts : List Happened) (used : Used) → can_match g q es lefts used ≡ true → HasMatches g q es lefts used
unfolding can_match names
match_sound g q es [] used h =
    (record { alternative = λ i. []; others = λ i. []; position = λ i n. 0 }, record { are_alternatives = λ i e s. cc (s.0); are_values = λ i e s. cc (s.0); hold = λ i e s. cc (s.0); injective = λ i j d e s. cc (s.0); fresh = λ i e s. cc (s.0) })
match_sound g q es (e ∷ lefts) used h = go (is_left q e) refl h (match_sound g q es lefts)
  where
    options : List Used
    options = flat_map (ways_for g q es e used) q.alternatives

    go : (b : Bool) → is_left q e ≡ b → cond b (list_any (can_match g q es lefts) options) (can_match g q es lefts used) ≡ true
        → ((u : Used) → can_match g q es lefts u ≡ true → HasMatches g q es lefts u) → HasMatches g q es (e ∷ lefts) used
    go false l k ih = skipped g q es e lefts used l (ih used k)
    go true l k ih =
        let r = any_has (can_match g q es lefts) options k in
        let o = flat_map_has (ways_for g q es e used) q.alternatives r.0 r.1 in
        let s = flat_map_has (λ ρ. ways g es ρ used o.0) (assignments g q.others (left_values q e)) r.0 o.2 in
        let v = assigned_values g q.others (left_values q e) s.0 s.1 in
        taken g q es e lefts used r.0 o.0 v.0 (has_contains q.alternatives o.0 o.1) v.1 (subst (λ ρ. Way g es ρ o.0 used r.0) v.2 (ways_sound g es s.0 used o.0 r.0 s.2)) (ih r.0 r.2)

-- the choice for the left events behind the first one
rest : Choice → Choice
rest c = record { alternative = λ i. c.alternative (suc i); others = λ i. c.others (suc i); position = λ i. c.position (suc i) }

match_complete : (g : Setting) (q : Correspondence) (es lefts : List Happened) (used : Used) (c : Choice) → Matches g q es lefts used c → can_match g q es lefts used ≡ true
unfolding can_match names rest
match_complete g q es [] used c m = refl
match_complete g q es (e ∷ lefts) used c m = go (is_left q e) refl (λ u. match_complete g q es lefts u (rest c))
  where
    options : List Used
    options = flat_map (ways_for g q es e used) q.alternatives

    later : (u : Used) → ((i : ℕ) (d : Happened) → IsLeftAt q lefts i d → Fresh (c.alternative (suc i)) (c.position (suc i)) u) → Matches g q es lefts u (rest c)
    later u f =
        record {
          are_alternatives = λ i d s. m.are_alternatives (suc i) d s;
          are_values = λ i d s. m.are_values (suc i) d s;
          hold = λ i d s. m.hold (suc i) d s;
          injective = λ i j b d r s k l n x y z. let o : suc i ≡ suc j = m.injective (suc i) (suc j) b d r s k l n x y z in omega arith;
          fresh = f;
        }

    after : Used
    after = used_with (c.alternative zero) (c.position zero) used

    fresh_after : e.event ≡ q.event → (i : ℕ) (d : Happened) → IsLeftAt q lefts i d → Fresh (c.alternative (suc i)) (c.position (suc i)) after
    fresh_after l i d s k n x = no (is_used after n (c.position (suc i) k)) refl
      where
        clash : IsUsedBy (c.alternative zero) (c.position zero) used n (c.position (suc i) k) → ⊥
        clash (inl y) = both_ways _ (m.fresh (suc i) d s k n x) y
        clash (inr y) = let one : suc i ≡ zero = m.injective (suc i) zero d e s (refl, l) k y.0 n x y.1 y.2 in absurd (omega arith)

        no : (b : Bool) → is_used after n (c.position (suc i) k) ≡ b → b ≡ false
        no true y = absurd (clash (used_only (c.alternative zero) (c.position zero) used n (c.position (suc i) k) y))
        no false y = refl

    go : (b : Bool) → is_left q e ≡ b → ((u : Used) → Matches g q es lefts u (rest c) → can_match g q es lefts u ≡ true)
        → cond b (list_any (can_match g q es lefts) options) (can_match g q es lefts used) ≡ true
    go false l ih = ih used (later used (λ i d s. m.fresh (suc i) d s))
    go true l ih =
        let here : IsLeftAt q (e ∷ lefts) zero e = (refl, eqb-true e.event q.event l) in
        has_any (can_match g q es lefts) options after
        (has_flat_map (ways_for g q es e used) q.alternatives (c.alternative zero) after
        (contains_has q.alternatives (c.alternative zero) (m.are_alternatives zero e here))
        (has_flat_map (λ ρ. ways g es ρ used (c.alternative zero)) (assignments g q.others (left_values q e)) (query_values q e (c.others zero)) after
        (values_assigned g q.others (left_values q e) (c.others zero) (m.are_values zero e here))
        (ways_complete g es (query_values q e (c.others zero)) used (c.alternative zero) (c.position zero) (m.hold zero e here) (m.fresh zero e here))))
        (ih after (later after (fresh_after here.1)))

matching_found : (g : Setting) (q : Correspondence) (es : List Happened) → can_match g q es es [] ≡ true → HasMatching g q es
matching_found g q es h =
    let r = match_sound g q es es [] h in
    (r.0, record { are_alternatives = r.1.are_alternatives; are_values = r.1.are_values; hold = r.1.hold; injective = r.1.injective })

found_matching : (g : Setting) (q : Correspondence) (es : List Happened) → HasMatching g q es → can_match g q es es [] ≡ true
found_matching g q es h =
    match_complete g q es es [] h.0 (record { are_alternatives = h.1.are_alternatives; are_values = h.1.are_values; hold = h.1.hold; injective = h.1.injective; fresh = λ i e s k n x. refl })

all_met : (g : Setting) (q : Correspondence) (es : List Happened) → list_any (unmet g q es) es ≡ false → AllMet g q es
unfolding unmet
all_met g q es h i e l = go (is_met g q es e) refl
  where
    go : (b : Bool) → is_met g q es e ≡ b → IsMet g q es e
    go true m = met_means g q es e m
    go false m = absurd (both_ways _ h (means_plain g q es (i, e, l, λ x. both_ways _ m (means_met g q es e x))))

none_unmet : (g : Setting) (q : Correspondence) (es : List Happened) → AllMet g q es → list_any (unmet g q es) es ≡ false
none_unmet g q es h = go (list_any (unmet g q es) es) refl
  where
    go : (b : Bool) → list_any (unmet g q es) es ≡ b → b ≡ false
    go true x = let u = plain_means g q es x in absurd (u.3 (h u.0 u.1 u.2))
    go false x = refl

pub kept_means : (g : Setting) (q : Correspondence) (es : List Happened) → (broken g q es ≡ false) ↔ IsKept g q es
unfolding broken unmet
kept_means g q es = go q.inj
  where
    found : (b : Bool) → can_match g q es es [] ≡ b → not b ≡ false → HasMatching g q es
    found true e x = matching_found g q es e
    found false e x = absurd (both_ways _ x refl)

    go : (b : Bool) → (cond b (not (can_match g q es es [])) (list_any (unmet g q es) es) ≡ false) ↔ MatchBool b (HasMatching g q es) (AllMet g q es)
    go true = (found _ refl, λ m. ap not (found_matching g q es m))
    go false = (all_met g q es, none_unmet g q es)

pub broken_means : (g : Setting) (q : Correspondence) (es : List Happened) → (broken g q es ≡ true) ↔ IsBroken g q es
unfolding broken unmet
broken_means g q es = go q.inj
  where
    not_found : (b : Bool) → can_match g q es es [] ≡ b → not b ≡ true → ¬ HasMatching g q es
    not_found true e x m = both_ways _ refl x
    not_found false e x m = both_ways _ e (found_matching g q es m)

    refused : (b : Bool) → can_match g q es es [] ≡ b → ¬ HasMatching g q es → not b ≡ true
    refused true e x = absurd (x (matching_found g q es e))
    refused false e x = refl

    go : (b : Bool) → (cond b (not (can_match g q es es [])) (list_any (unmet g q es) es) ≡ true) ↔ MatchBool b (¬ HasMatching g q es) (HasUnmet g q es)
    go true = (not_found _ refl, refused _ refl)
    go false = (plain_means g q es, means_plain g q es)
