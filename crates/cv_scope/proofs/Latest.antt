-- Of the sites of a name the last one tells whether another may stand.
use Rattle.std.proofs.Common.{◌≡◌, ℕ, Bool, true, false, ◌&&◌, cond, List, [], ◌∷◌, ◌++◌, refl, ap, ap₂, sym, ◌∙◌, subst, Option, Some, None}
use Rattle.std.specs.List.{AllByRecursion, list_all}
use Rattle.std.proofs.lemmas.Bool.{and_parts, and_from, both_ways}
use Rattle.cv_syntax_trees.specs.sites.Sites.{first_of}
use Rattle.cv_scope_rules.specs.Rules.{AreAlike, MayFollow}
use Rattle.cv_scope.specs.Seen.{may_follow_last, may_stand_last, no_site, with_site, with_sites}
use Rattle.cv_scope_rules.specs.Sites.{InOneOf, Site, SiteName}
use Rattle.cv_scope_rules.specs.Tests.{is_in_one_of, may_follow, may_stand, same_name}
use Rattle.cv_scope_rules.proofs.Decided.{alike_found, alike_tested, follows_found, follows_tested, name_same, ranges_found, ranges_tested, same_name_law}
use Rattle.cv_scope.proofs.Faults.{sites_append}
use Rattle.cv_scope_rules.specs.Branches.{Pairs}
use Rattle.cv_scope_rules.proofs.Pairs.{all_weaker, pairs_append}

-- an earlier site is in another branch where a later one of its name is, and they are alike
abbrev pub IsCovered : List (ℕ × ℕ) → Site → Site → Type 0
IsCovered passed e l = e.name ≡ l.name → (InOneOf passed l.place → InOneOf passed e.place) × AreAlike e l

alike_trans : (e l s : Site) → AreAlike e l → AreAlike l s → AreAlike e s
alike_trans e l s a b = (a.0 ∙ b.0, a.1 ∙ b.1)

-- the last site of a name, from the front
cond_first : (A : Option Site) (b : Bool) (x : Site) (o : Option Site) → first_of (first_of A (cond b (Some x) None)) o ≡ first_of A (cond b (Some x) o)
cond_first (Some k) b x o = refl
cond_first None true x o = refl
cond_first None false x o = refl

from_front : (last : SiteName → Option Site) (xs : List Site) (n : SiteName) → with_sites last xs n ≡ first_of (with_sites no_site xs n) (last n)
from_front last [] n = refl
from_front last (x ∷ xs) n =
    from_front (with_site last x) xs n
    ∙ (sym (cond_first (with_sites no_site xs n) (same_name x.name n) x (last n))
    ∙ ap (λ o. first_of o (last n)) (sym (from_front (with_site no_site x) xs n)))

last_is : (P : Site → Type 0) (xs : List Site) (n : SiteName) (l : Site) → with_sites no_site xs n ≡ Some l → AllByRecursion P xs → P l × (l.name ≡ n)
last_is P [] n l e a = absurd (cc)
last_is P (x ∷ xs) n l e a = go (with_sites no_site xs n) refl (sym (from_front (with_site no_site x) xs n) ∙ e) (λ f. last_is P xs n l f a.1)
  where
    here : (b : Bool) → same_name x.name n ≡ b → cond b (Some x) None ≡ Some l → P l × (l.name ≡ n)
    here true f g = let d : x ≡ l = cc in (subst P d a.0, sym (ap (λ (s : Site). s.name) d) ∙ name_same x.name n f)
    here false f g = absurd (cc)

    go : (o : Option Site) → with_sites no_site xs n ≡ o → first_of o (cond (same_name x.name n) (Some x) None) ≡ Some l → (with_sites no_site xs n ≡ Some l → P l × (l.name ≡ n)) → P l × (l.name ≡ n)
    go (Some k) f g ih = ih (f ∙ g)
    go None f g ih = here (same_name x.name n) refl g

module _ (passed : List (ℕ × ℕ)) (s : Site) where
  -- where all earlier sites let it stand, the last one does
  all_last : (xs : List Site) → AllByRecursion (MayFollow passed s) xs → may_follow_last passed s (with_sites no_site xs s.name) ≡ true
  all_last xs a = go (with_sites no_site xs s.name) refl
    where
      go : (o : Option Site) → with_sites no_site xs s.name ≡ o → may_follow_last passed s o ≡ true
      go None e = refl
      go (Some l) e = let m = last_is (MayFollow passed s) xs s.name l e a in let k = m.0 m.1 in and_from (is_in_one_of passed l.place) _ (ranges_tested passed l.place k.0) (alike_tested l s k.1)

  -- where the last one lets it stand, all do
  last_all : (xs : List Site) → Pairs (IsCovered passed) xs → may_follow_last passed s (with_sites no_site xs s.name) ≡ true → AllByRecursion (MayFollow passed s) xs
  last_all [] p e = tt
  last_all (x ∷ xs) p e = go (with_sites no_site xs s.name) refl (sym (ap (may_follow_last passed s) (from_front (with_site no_site x) xs s.name)) ∙ e) (last_all xs p.1)
    where
      found : (l : Site) → may_follow_last passed s (Some l) ≡ true → InOneOf passed l.place × AreAlike l s
      found l h = let k = and_parts (is_in_one_of passed l.place) _ h in (ranges_found passed l.place k.0, alike_found l s k.1)

      go : (o : Option Site) → with_sites no_site xs s.name ≡ o → may_follow_last passed s (first_of o (with_site no_site x s.name)) ≡ true → (may_follow_last passed s (with_sites no_site xs s.name) ≡ true → AllByRecursion (MayFollow passed s) xs) → AllByRecursion (MayFollow passed s) (x ∷ xs)
      go (Some l) f h ih =
          let m = last_is (IsCovered passed x) xs s.name l f p.0 in
          let k = found l h in
          (λ n. let c = m.0 (n ∙ sym m.1) in (c.0 k.0, alike_trans x l s c.1 k.1), ih (ap (may_follow_last passed s) f ∙ h))
      go None f h ih = (λ n. found x (sym (ap (λ b. may_follow_last passed s (cond b (Some x) None)) (same_name_law x.name s.name n)) ∙ h), ih (ap (may_follow_last passed s) f))

  one_stands : (xs : List Site) → Pairs (IsCovered passed) xs → list_all (may_follow passed s) xs ≡ may_follow_last passed s (with_sites no_site xs s.name)
  one_stands xs p = go (list_all (may_follow passed s) xs) (may_follow_last passed s (with_sites no_site xs s.name)) refl refl
    where
      go : (b c : Bool) → list_all (may_follow passed s) xs ≡ b → may_follow_last passed s (with_sites no_site xs s.name) ≡ c → b ≡ c
      go true true e f = refl
      go false false e f = refl
      go true false e f = absurd (both_ways _ f (all_last xs (follows_found passed s xs e)))
      go false true e f = absurd (both_ways _ e (follows_tested passed s xs (last_all xs p f)))

  -- and then the sites with it are again covered
  pub covered_more : (xs : List Site) → Pairs (IsCovered passed) xs → AllByRecursion (MayFollow passed s) xs → Pairs (IsCovered passed) (xs ++ s ∷ [])
  covered_more xs p a = pairs_append (IsCovered passed) xs (s ∷ []) p (tt, tt) (all_weaker (MayFollow passed s) (λ e. AllByRecursion (IsCovered passed e) (s ∷ [])) xs (λ e m. (λ n. (λ k. (m n).0, (m n).1), tt)) a)

pub all_stand : (passed : List (ℕ × ℕ)) (ss xs : List Site) → Pairs (IsCovered passed) xs → may_stand passed xs ss ≡ may_stand_last passed (with_sites no_site xs) ss
all_stand passed [] xs p = refl
all_stand passed (s ∷ ss) xs p = go (list_all (may_follow passed s) xs) refl (λ q. all_stand passed ss (xs ++ s ∷ []) q)
  where
    rest : list_all (may_follow passed s) xs ≡ true → (Pairs (IsCovered passed) (xs ++ s ∷ []) → may_stand passed (xs ++ s ∷ []) ss ≡ may_stand_last passed (with_sites no_site (xs ++ s ∷ [])) ss) → may_stand passed (xs ++ s ∷ []) ss ≡ may_stand_last passed (with_site (with_sites no_site xs) s) ss
    rest e ih = ih (covered_more passed s xs p (follows_found passed s xs e)) ∙ ap (λ f. may_stand_last passed f ss) (sites_append no_site xs (s ∷ []))

    go : (b : Bool) → list_all (may_follow passed s) xs ≡ b → (Pairs (IsCovered passed) (xs ++ s ∷ []) → may_stand passed (xs ++ s ∷ []) ss ≡ may_stand_last passed (with_sites no_site (xs ++ s ∷ [])) ss) → (list_all (may_follow passed s) xs && may_stand passed (xs ++ s ∷ []) ss) ≡ (may_follow_last passed s (with_sites no_site xs s.name) && may_stand_last passed (with_site (with_sites no_site xs) s) ss)
    go true e ih = ap₂ ◌&&◌ (one_stands passed s xs p) (rest e ih)
    go false e ih = ap (λ b. b && may_stand passed (xs ++ s ∷ []) ss) e ∙ sym (ap (λ b. b && may_stand_last passed (with_site (with_sites no_site xs) s) ss) (sym (one_stands passed s xs p) ∙ e))
