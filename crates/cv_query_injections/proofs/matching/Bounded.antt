-- What an accepted certificate costs: the chance that two values are equal of one of the variables whose values it takes to differ.
use Rattle.std.proofs.Common.{◌≡◌, ℕ, ◌+◌, ◌*◌, ◌<◌, ◌≤◌, Bool, true, false, cond, nat_lt, ltb-true, ltb-false, List, [], ◌∷◌, ◌++◌, map, Option, Some, None, refl, sym, ap, subst, ◌∙◌, arith, le_trans, mul-le-mul_right}
use Rattle.std.proofs.lemmas.Bool.{both_ways, or_parts}
use Rattle.std.proofs.lemmas.List.Elements.{All-head, All-tail}
use Rattle.std.proofs.lemmas.List.Sums.{sum_by-cons}
use Rattle.std.specs.List.{All, AllByRecursion, count_by, list_any}
use Rattle.cv_syntax_trees.specs.declared.head.Head.TheVariants.{EventsCertificate}
use Rattle.cv_syntax_trees.specs.Tree.{Tree, Node}
use Rattle.cv_meaning.specs.Advantage.{chance_of}
use Rattle.cv_meaning.specs.Cells.{cells}
use Rattle.cv_meaning.specs.Chances.{AtMost, Chance, chance, zero_chance}
use Rattle.cv_meaning.specs.Correspondences.{broken, correspondence_of}
use Rattle.cv_meaning.specs.Experiments.{Breaks, holds_on, run}
use Rattle.cv_meaning.specs.Interpretation.{Interpretation, Setting, setting_of}
use Rattle.cv_meaning.specs.Runs.{Adversary, Events}
use Rattle.cv_meaning.specs.Tapes.{Cell, Tape, blank, count, total}
use Rattle.cv_meaning_laws.specs.adequacy.Counted.{tapes_of}
use Rattle.cv_meaning_laws.proofs.adequacy.Counting.{count_is}
use Rattle.cv_meaning_chances.specs.Fractions.{HasTapes, plus, sum_of}
use Rattle.cv_meaning_chances.specs.Tests.{some_equal}
use Rattle.cv_meaning_chances.proofs.FractionLaws.{at_most_trans, plus_kept}
use Rattle.cv_meaning_chances.proofs.Unions.{chance_any}
use Rattle.cv_meaning_chances.proofs.Within.{count_at_most}
use Rattle.cv_syntax_trees.specs.declared.sites.sort.Sort.TheVariants.{OfType}
use Rattle.cv_syntax_trees.specs.sites.Sites.{Variable, first_site}
use Rattle.cv_scope_rules.specs.Phrases.{Inputs, is_phrase}
use Rattle.cv_scope_runs.proofs.Standing.{root}
use Rattle.cv_scene.specs.Scenes.{Scene, has_news_alone}
use Rattle.cv_steps.specs.values.Values.{collision_value}
use Rattle.cv_derive_laws.specs.stores.Costs.{bound_of}
use Rattle.cv_costs.specs.Certificates.{collision_for, collisions_for, cost_for, cost_of_certificate, distinct_among}
use Rattle.cv_costs.specs.Collisions.{collision_of, type_of}
use Rattle.cv_query_certificates.specs.Accepted.{IsEventsProof}
use Rattle.cv_query_certificates.specs.Forms.{left_places}
use Rattle.cv_query_certificates.specs.PairParts.{AreDistinct, behind_entries, distinct_in}
use Rattle.cv_rule_birthday_laws.specs.chosen.Drawn.{choices_of, pairs_over}
use Rattle.cv_rule_birthday_laws.proofs.Sound.{worth}
use Rattle.cv_rule_birthday_laws.proofs.chosen.Below.{news_there}
use Rattle.cv_rule_birthday_laws.proofs.chosen.Pairs.{IsTyped, Site, site_new, site_there}
use Rattle.cv_query_injections.specs.Differing.{AllDiffer, Differ, DifferBy}
use Rattle.cv_query_injections.proofs.matching.Differing.{IsOnlyChosen, distinct_behind, distinct_chosen}

-- fractions

plus_zero : (p : Chance) → plus p zero_chance ≡ p
plus_zero p =
    let good : p.good * 1 + 0 * p.all ≡ p.good = omega arith in
    let all : p.all * 1 ≡ p.all = omega arith in
    λ j. record { good = good j; all = all j }

pub never_most : (p bound : Chance) → AtMost p zero_chance → AtMost p bound
never_most p bound h =
    let none : p.good ≡ 0 = omega (arith, h) in
    subst (λ n. n * bound.all ≤ bound.good * p.all) (sym none) (omega arith)

-- a test that holds on no more of the counted tapes has no greater count

counted_less : (p q : Tape → Bool) (ts : List Tape) → All (λ t. q t ≡ false → p t ≡ false) ts → count_by p ts ≤ count_by q ts
counted_less p q [] h = let a : count_by p [] ≡ 0 = refl in let b : count_by q [] ≡ 0 = refl in omega arith
counted_less p q (t ∷ ts) h =
    let one : cond (p t) 1 0 ≤ cond (q t) 1 0 = go (p t) (q t) (All-head (λ t. q t ≡ false → p t ≡ false) t ts h) in
    let more : count_by p ts ≤ count_by q ts = counted_less p q ts (All-tail (λ t. q t ≡ false → p t ≡ false) t ts h) in
    let a : count_by p (t ∷ ts) ≡ cond (p t) 1 0 + count_by p ts = sum_by-cons (λ u. cond (p u) 1 0) t ts in
    let b : count_by q (t ∷ ts) ≡ cond (q t) 1 0 + count_by q ts = sum_by-cons (λ u. cond (q u) 1 0) t ts in
    omega arith
  where
    go : (a b : Bool) → (b ≡ false → a ≡ false) → cond a 1 0 ≤ cond b 1 0
    go true true f = omega arith
    go true false f = absurd (both_ways _ (f refl) refl)
    go false b f = omega arith

count_less : (cs : List (Cell × ℕ)) (p q : Tape → Bool) → All (λ t. q t ≡ false → p t ≡ false) (tapes_of cs blank) → count cs p blank ≤ count cs q blank
count_less cs p q h =
    let a : count cs p blank ≡ count_by p (tapes_of cs blank) = count_is cs p blank in
    let b : count cs q blank ≡ count_by q (tapes_of cs blank) = count_is cs q blank in
    let c : count_by p (tapes_of cs blank) ≤ count_by q (tapes_of cs blank) = counted_less p q (tapes_of cs blank) h in
    omega arith

-- so its chance is at most what bounds that of the other

chance_less : (cs : List (Cell × ℕ)) (p q : Tape → Bool) (bound : Chance) → All (λ t. q t ≡ false → p t ≡ false) (tapes_of cs blank) → AtMost (chance cs q) bound → AtMost (chance cs p) bound
chance_less cs p q bound h k = le_trans (mul-le-mul_right bound.all (count_less cs p q h)) k

sum_has_tapes : (cs : List (Cell × ℕ)) (ps : List (Tape → Bool)) → 0 < total cs → HasTapes (sum_of (map (chance cs) ps))
sum_has_tapes cs [] l = omega arith
sum_has_tapes cs (p ∷ ps) l = both (total cs) (sum_of (map (chance cs) ps)).all l (sum_has_tapes cs ps l)
  where
    both : (m n : ℕ) → 0 < m → 0 < n → 0 < m * n
    both m n a b = grind arith

-- where there is no tape a chance is at most anything
no_tapes : (cs : List (Cell × ℕ)) (p : Tape → Bool) (bound : Chance) → total cs ≤ 0 → AtMost (chance cs p) bound
no_tapes cs p bound l =
    let most : count cs p blank ≤ total cs = count_at_most cs p blank in
    let none : count cs p blank ≡ 0 = omega arith in
    subst (λ n. n * bound.all ≤ bound.good * total cs) (sym none) (omega arith)

any_less : (cs : List (Cell × ℕ)) (ps : List (Tape → Bool)) (bound : Chance) → AtMost (sum_of (map (chance cs) ps)) bound → AtMost (chance cs (λ u. list_any (λ p. p u) ps)) bound
any_less cs ps bound h = go (nat_lt 0 (total cs)) refl
  where
    go : (b : Bool) → nat_lt 0 (total cs) ≡ b → AtMost (chance cs (λ u. list_any (λ p. p u) ps)) bound
    go true e = at_most_trans (chance cs (λ u. list_any (λ p. p u) ps)) (sum_of (map (chance cs) ps)) bound (sum_has_tapes cs ps (ltb-true 0 (total cs) e)) (chance_any cs ps) h
    go false e = no_tapes cs (λ u. list_any (λ p. p u) ps) bound (ltb-false 0 (total cs) e)

-- that two values of a variable are equal

equal_by : Setting → (x : ℕ) → Option Variable → Tape → Bool
equal_by g x None t = false
equal_by g x (Some v) t = some_equal (choices_of g x v.parameters) t

differ_by : (g : Setting) (x : ℕ) (o : Option Variable) (t : Tape) → equal_by g x o t ≡ false → DifferBy g x o t
unfolding equal_by
differ_by g x None t e = tt
differ_by g x (Some v) t e = e

module _ (s : Scene) (i : Interpretation) where
  abbrev g : Setting
  g = setting_of s.declarations i

  tests_for : List ℕ → List (Tape → Bool)
  tests_for xs = map (λ x. equal_by g x (first_site x [] s.game)) xs

  none_equal : (xs : List ℕ) (t : Tape) → list_any (λ p. p t) (tests_for xs) ≡ false → AllByRecursion (Differ s i t) xs
  unfolding tests_for
  none_equal [] t e = tt
  none_equal (x ∷ xs) t e =
      let p = or_parts (equal_by g x (first_site x [] s.game) t) _ e in
      (differ_by g x (first_site x [] s.game) t p.0, none_equal xs t p.1)

  -- the value of a variable's collision is that of its pairs
  collision_worth : (ps : List ℕ) (T : ℕ) → pairs_over ps T i ≡ collision_value i (collision_of s.declarations (ps ++ ps) true T)
  collision_worth ps T = worth i s.declarations ps T ∙ plus_zero (collision_value i (collision_of s.declarations (ps ++ ps) true T))

  chosen_sort : (x : ℕ) (v : Variable) → is_phrase Inputs s.game ≡ true → has_news_alone x s.game ≡ true → first_site x [] s.game ≡ Some v → v.sort ≡ OfType (type_of v.sort)
  chosen_sort x v whole news first =
      let site : Site s.game x v.sort = site_there s.game x v [] Inputs s.game whole root first in
      let new : IsTyped x site.head v.sort = site_new x site.phrase site.head site.one site.two v.sort site.whole (news_there x s.game news site.stands) site.here in
      new.sorted ∙ ap OfType (sym (ap type_of new.sorted))

  module _ (cs : List (Cell × ℕ)) (whole : is_phrase Inputs s.game ≡ true)
      (rare : (x type : ℕ) (v : Variable) → has_news_alone x s.game ≡ true → first_site x [] s.game ≡ Some v → v.sort ≡ OfType type → AtMost (chance cs (some_equal (choices_of g x v.parameters))) (pairs_over v.parameters type i)) where
    sums_less : (xs : List ℕ) → AllByRecursion (IsOnlyChosen s) xs → AtMost (sum_of (map (chance cs) (tests_for xs))) (sum_of (map (collision_value i) (collisions_for s xs)))
    unfolding tests_for equal_by
    sums_less [] a = omega arith
    sums_less (x ∷ xs) a =
        let c : IsOnlyChosen s x = a.0 in
        let v : Variable = c.variable in
        let one = subst (AtMost (chance cs (some_equal (choices_of g x v.parameters)))) (collision_worth v.parameters (type_of v.sort)) (rare x (type_of v.sort) v c.news c.is_first (chosen_sort x v whole c.news c.is_first)) in
        subst (λ o. AtMost (plus (chance cs (equal_by g x o)) (sum_of (map (chance cs) (tests_for xs)))) (sum_of (map (collision_value i) (collision_for s.declarations o ++ collisions_for s xs)))) (sym c.is_first)
        (plus_kept (chance cs (some_equal (choices_of g x v.parameters))) (collision_value i (collision_of s.declarations (v.parameters ++ v.parameters) true (type_of v.sort))) (sum_of (map (chance cs) (tests_for xs))) (sum_of (map (collision_value i) (collisions_for s xs)))
        one (sums_less xs a.1))

    pub bounded : (xs : List ℕ) → AllByRecursion (IsOnlyChosen s) xs → (p : Tape → Bool) → All (λ t. AllByRecursion (Differ s i t) xs → p t ≡ false) (tapes_of cs blank) → AtMost (chance cs p) (bound_of i (cost_for s xs))
    bounded xs a p h =
        subst (AtMost (chance cs p)) (sum_is xs)
        (chance_less cs p (λ u. list_any (λ p. p u) (tests_for xs)) (sum_of (map (collision_value i) (collisions_for s xs))) (λ k d l e. h k d l (none_equal xs _ e)) (any_less cs (tests_for xs) (sum_of (map (collision_value i) (collisions_for s xs))) (sums_less xs a)))
      where
        sum_is : (xs : List ℕ) → sum_of (map (collision_value i) (collisions_for s xs)) ≡ bound_of i (cost_for s xs)
        sum_is [] = refl
        sum_is (x ∷ xs) = refl

all_chosen : (s : Scene) (before xs : List ℕ) → AreDistinct s before xs → AllByRecursion (IsOnlyChosen s) xs
all_chosen s before [] d = tt
all_chosen s before (x ∷ xs) d = (distinct_chosen s before x d.0, all_chosen s (x ∷ before) xs d.1)

-- the chance of an injective correspondence with an accepted certificate

module _ (s : Scene) (query : Tree) (i : Interpretation) (a : Adversary) (whole : is_phrase Inputs s.game ≡ true)
    (rare : (x type : ℕ) (v : Variable) → has_news_alone x s.game ≡ true → first_site x [] s.game ≡ Some v → v.sort ≡ OfType type
    → AtMost (chance (cells (setting_of s.declarations i) Events a s.game) (some_equal (choices_of (setting_of s.declarations i) x v.parameters))) (pairs_over v.parameters type i)) where
  pub within_cost : (certificate : Tree) → IsEventsProof s (correspondence_of query) certificate
      → All (λ t. AllDiffer s i certificate t → broken (setting_of s.declarations i) (correspondence_of query) (run (setting_of s.declarations i) Events a s.game t).memory.events ≡ false) (tapes_of (cells (setting_of s.declarations i) Events a s.game) blank)
      → AtMost (chance_of (setting_of s.declarations i) (Breaks query) a s.game) (bound_of i (cost_of_certificate s certificate))
  unfolding chance_of holds_on
  within_cost (Node EventsCertificate parts e) accepted h =
      let chosen = subst (AllByRecursion (IsOnlyChosen s)) (sym (distinct_behind s (correspondence_of query) (left_places s (correspondence_of query)) parts accepted)) (all_chosen s [] (distinct_in (behind_entries (left_places s (correspondence_of query)) parts)) accepted.rest.distinct) in
      bounded s i (cells (setting_of s.declarations i) Events a s.game) whole rare (distinct_among parts) chosen (holds_on (setting_of s.declarations i) (Breaks query) a s.game) h
  within_cost certificate accepted h = absurd accepted
