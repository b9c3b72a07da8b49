-- What is computed is the first query that may not be asked, and there is none exactly where all may.
use Rattle.std.proofs.Common.{◌≡◌, ℕ, suc, ◌+◌, Bool, true, false, cond, List, [], ◌∷◌, ◌++◌, length, refl, ap, sym, ◌∙◌, subst, arith, Option, Some, None}
use Rattle.std.specs.Prelude.{option_map}
use Rattle.std.proofs.lemmas.Bool.{both_ways}
use Rattle.cv_syntax_trees.specs.Tree.{Tree}
use Rattle.cv_query_form.specs.Rules.{MayBeAsked, AreAsked, IsFirstRefused}
use Rattle.cv_query_form.specs.Tests.{may_be_asked, first_refused}
use Rattle.cv_query_form.proofs.Decided.{query_found, query_tested}

module _ (game : Tree) where
  pub passed : (q : Tree) (qs : List Tree) → may_be_asked game q ≡ true → first_refused game (q ∷ qs) ≡ option_map suc (first_refused game qs)
  unfolding first_refused
  passed q qs e = ap (λ b. cond b (option_map suc (first_refused game qs)) (Some 1)) e

  pub stopped : (q : Tree) (qs : List Tree) → may_be_asked game q ≡ false → first_refused game (q ∷ qs) ≡ Some 1
  unfolding first_refused
  stopped q qs e = ap (λ b. cond b (option_map suc (first_refused game qs)) (Some 1)) e

  refused_where : (q : Tree) → may_be_asked game q ≡ false → MayBeAsked game q → ⊥
  refused_where q e m = both_ways _ e (query_tested game q m)

  stopped_where : (q : Tree) → (MayBeAsked game q → ⊥) → may_be_asked game q ≡ false
  stopped_where q n = cases (may_be_asked game q) refl
    where
      cases : (b : Bool) → may_be_asked game q ≡ b → may_be_asked game q ≡ false
      cases true e = absurd (n (query_found game q e))
      cases false e = e

  none_behind : (o : Option ℕ) → option_map suc o ≡ None → o ≡ None
  none_behind None e = refl
  none_behind (Some k) e = absurd (cc)

  asked_more : (q : Tree) (qs : List Tree) → first_refused game (q ∷ qs) ≡ None → (first_refused game qs ≡ None → AreAsked game qs) → AreAsked game (q ∷ qs)
  asked_more q qs e rest = cases (may_be_asked game q) refl
    where
      cases : (b : Bool) → may_be_asked game q ≡ b → AreAsked game (q ∷ qs)
      cases true f = (query_found game q f, rest (none_behind (first_refused game qs) (sym (passed q qs f) ∙ e)))
      cases false f = absurd (let g = sym (stopped q qs f) ∙ e in absurd (cc))

  pub asked_where_none : (qs : List Tree) → first_refused game qs ≡ None → AreAsked game qs
  asked_where_none [] e = tt
  asked_where_none (q ∷ qs) e = asked_more q qs e (asked_where_none qs)

  pub none_where_asked : (qs : List Tree) → AreAsked game qs → first_refused game qs ≡ None
  unfolding first_refused
  none_where_asked [] m = refl
  none_where_asked (q ∷ qs) m = passed q qs (query_tested game q m.0) ∙ ap (option_map suc) (none_where_asked qs m.1)

  -- a query more, that may be asked
  later : (q : Tree) (qs : List Tree) (k : ℕ) → MayBeAsked game q → IsFirstRefused game qs k → IsFirstRefused game (q ∷ qs) (suc k)
  later q qs k a m = record {
    before = q ∷ m.before;
    query = m.query;
    behind = m.behind;
    parts = ap (λ l. q ∷ l) m.parts;
    number = let n = m.number in omega arith;
    asked = (a, m.asked);
    refused = m.refused;
  }

  found_more : (q : Tree) (qs : List Tree) (k : ℕ) → first_refused game (q ∷ qs) ≡ Some k → ((j : ℕ) → first_refused game qs ≡ Some j → IsFirstRefused game qs j) → IsFirstRefused game (q ∷ qs) k
  found_more q qs k e rest = cases (may_be_asked game q) refl
    where
      behind : may_be_asked game q ≡ true → (o : Option ℕ) → first_refused game qs ≡ o → option_map suc o ≡ Some k → IsFirstRefused game (q ∷ qs) k
      behind f None g h = absurd (cc)
      behind f (Some j) g h =
          let n : suc j ≡ k = cc in
          let P : ℕ → Type 0 = λ i. IsFirstRefused game (q ∷ qs) i in
          subst P n (later q qs j (query_found game q f) (rest j g))

      cases : (b : Bool) → may_be_asked game q ≡ b → IsFirstRefused game (q ∷ qs) k
      cases true f = behind f (first_refused game qs) refl (sym (passed q qs f) ∙ e)
      cases false f =
          let g = sym (stopped q qs f) ∙ e in
          let n : 1 ≡ k = cc in
          record { before = []; query = q; behind = qs; parts = refl; number = omega arith; asked = tt; refused = refused_where q f }

  pub finds_first_law : (qs : List Tree) (k : ℕ) → first_refused game qs ≡ Some k → IsFirstRefused game qs k
  unfolding first_refused
  finds_first_law [] k e = absurd (cc)
  finds_first_law (q ∷ qs) k e = found_more q qs k e (finds_first_law qs)

  first_behind : (before : List Tree) (q : Tree) (behind : List Tree) → AreAsked game before → (MayBeAsked game q → ⊥) → first_refused game (before ++ q ∷ behind) ≡ Some (length before + 1)
  first_behind [] q behind m n = stopped q behind (stopped_where q n)
  first_behind (p ∷ before) q behind m n =
      let l : suc (length before + 1) ≡ length (p ∷ before) + 1 = omega arith in
      passed p (before ++ q ∷ behind) (query_tested game p m.0) ∙ (ap (option_map suc) (first_behind before q behind m.1 n) ∙ ap Some l)

  pub first_is_found : (qs : List Tree) (k : ℕ) → IsFirstRefused game qs k → first_refused game qs ≡ Some k
  first_is_found qs k m = ap (first_refused game) m.parts ∙ (first_behind m.before m.query m.behind m.asked m.refused ∙ ap Some (sym m.number))
