-- What is computed is the first rule that is broken, and the first equivalence that breaks one.
use Rattle.std.proofs.Common.{◌≡◌, ℕ, suc, ◌+◌, Bool, true, false, cond, List, [], ◌∷◌, ◌++◌, length, refl, ap, sym, ◌∙◌, subst, arith, Option, Some, None}
use Rattle.std.proofs.lemmas.Bool.{both_ways}
use Rattle.cv_syntax_trees.specs.Tree.{Tree}
use Rattle.cv_group_rules.specs.Symbols.{Symbols}
use Rattle.cv_group_rules.specs.Rules.{left_bodies_are_terms, branches_have_one_index, shapes_agree, names_are_bound, names_are_read}
use Rattle.cv_group_rules.specs.Faults.{GroupRule, LeftIsTerm, OneIndex, SameShape, BoundNames, ReadNames, IsAccepted, IsFirstBroken, AreAccepted, IsFirstGroupFault, keeps, or_else, group_fault, later, refused_or, first_group_fault}

module _ (symbols : Symbols) where
  -- the five tests as arguments
  fault_by : (a b c d e : Bool) → Option GroupRule
  fault_by a b c d e = or_else a LeftIsTerm (or_else b OneIndex (or_else c SameShape (or_else d BoundNames (or_else e ReadNames None))))

  record Tests (t : Tree) (a b c d e : Bool) : Type 0 where
    one : left_bodies_are_terms t ≡ a
    two : branches_have_one_index t ≡ b
    three : shapes_agree t ≡ c
    four : names_are_bound symbols t ≡ d
    five : names_are_read t ≡ e

  kept_by : (t : Tree) → Tests t true true true true true → (r : GroupRule) → keeps symbols r t ≡ true
  kept_by t k LeftIsTerm = k.one
  kept_by t k OneIndex = k.two
  kept_by t k SameShape = k.three
  kept_by t k BoundNames = k.four
  kept_by t k ReadNames = k.five

  accepted_by : (t : Tree) (a b c d e : Bool) → Tests t a b c d e → fault_by a b c d e ≡ None → IsAccepted symbols t
  unfolding fault_by
  accepted_by t true true true true true k h = record { kept = kept_by t k }
  accepted_by t false b c d e k h = absurd (cc)
  accepted_by t true false c d e k h = absurd (cc)
  accepted_by t true true false d e k h = absurd (cc)
  accepted_by t true true true false e k h = absurd (cc)
  accepted_by t true true true true false k h = absurd (cc)

  tests : (t : Tree) → Tests t (left_bodies_are_terms t) (branches_have_one_index t) (shapes_agree t) (names_are_bound symbols t) (names_are_read t)
  tests t = record { one = refl; two = refl; three = refl; four = refl; five = refl }

  pub accepted_where_none : (t : Tree) → group_fault symbols t ≡ None → IsAccepted symbols t
  unfolding group_fault fault_by
  accepted_where_none t h = accepted_by t _ _ _ _ _ (tests t) h

  fault_at : (t : Tree) (a b c d e : Bool) → Tests t a b c d e → group_fault symbols t ≡ fault_by a b c d e
  unfolding group_fault fault_by
  fault_at t a b c d e k =
      ap (λ x. fault_by x (branches_have_one_index t) (shapes_agree t) (names_are_bound symbols t) (names_are_read t)) k.one
      ∙ ap (λ x. fault_by a x (shapes_agree t) (names_are_bound symbols t) (names_are_read t)) k.two
      ∙ ap (λ x. fault_by a b x (names_are_bound symbols t) (names_are_read t)) k.three
      ∙ ap (λ x. fault_by a b c x (names_are_read t)) k.four
      ∙ ap (λ x. fault_by a b c d x) k.five

  pub none_where_accepted : (t : Tree) → IsAccepted symbols t → group_fault symbols t ≡ None
  unfolding fault_by
  none_where_accepted t m =
      fault_at t true true true true true (record { one = m.kept LeftIsTerm; two = m.kept OneIndex; three = m.kept SameShape; four = m.kept BoundNames; five = m.kept ReadNames })

  broken_by : (t : Tree) (a b c d e : Bool) → Tests t a b c d e → (r : GroupRule) → fault_by a b c d e ≡ Some r → IsFirstBroken symbols t r
  unfolding fault_by
  broken_by t true true true true true k r h = absurd (cc)
  broken_by t false b c d e k r h = let P : GroupRule → Type 0 = λ q. IsFirstBroken symbols t q in let s : LeftIsTerm ≡ r = cc in subst P s (record { broken = k.one; kept = tt })
  broken_by t true false c d e k r h = let P : GroupRule → Type 0 = λ q. IsFirstBroken symbols t q in let s : OneIndex ≡ r = cc in subst P s (record { broken = k.two; kept = (k.one, tt) })
  broken_by t true true false d e k r h =
      let P : GroupRule → Type 0 = λ q. IsFirstBroken symbols t q in let s : SameShape ≡ r = cc in subst P s (record { broken = k.three; kept = (k.one, (k.two, tt)) })
  broken_by t true true true false e k r h =
      let P : GroupRule → Type 0 = λ q. IsFirstBroken symbols t q in let s : BoundNames ≡ r = cc in subst P s (record { broken = k.four; kept = (k.one, (k.two, (k.three, tt))) })
  broken_by t true true true true false k r h =
      let P : GroupRule → Type 0 = λ q. IsFirstBroken symbols t q in let s : ReadNames ≡ r = cc in subst P s (record { broken = k.five; kept = (k.one, (k.two, (k.three, (k.four, tt)))) })

  pub first_broken : (t : Tree) (r : GroupRule) → group_fault symbols t ≡ Some r → IsFirstBroken symbols t r
  unfolding group_fault fault_by
  first_broken t r h = broken_by t _ _ _ _ _ (tests t) r h

  pub broken_is_found : (t : Tree) (r : GroupRule) → IsFirstBroken symbols t r → group_fault symbols t ≡ Some r
  unfolding fault_by
  broken_is_found t LeftIsTerm m = fault_at t false _ _ _ _ (record { one = m.broken; two = refl; three = refl; four = refl; five = refl })
  broken_is_found t OneIndex m = fault_at t true false _ _ _ (record { one = m.kept.0; two = m.broken; three = refl; four = refl; five = refl })
  broken_is_found t SameShape m = fault_at t true true false _ _ (record { one = m.kept.0; two = m.kept.1.0; three = m.broken; four = refl; five = refl })
  broken_is_found t BoundNames m = fault_at t true true true false _ (record { one = m.kept.0; two = m.kept.1.0; three = m.kept.1.1.0; four = m.broken; five = refl })
  broken_is_found t ReadNames m = fault_at t true true true true false (record { one = m.kept.0; two = m.kept.1.0; three = m.kept.1.1.0; four = m.kept.1.1.1.0; five = m.broken })

  -- lists

  later_none : (o : Option (ℕ × GroupRule)) → later o ≡ None → o ≡ None
  later_none None h = refl
  later_none (Some p) h = absurd (cc)

  pub accepted_more : (ts : List Tree) → first_group_fault symbols ts ≡ None → AreAccepted symbols ts
  unfolding first_group_fault
  accepted_more [] h = tt
  accepted_more (t ∷ ts) h = go (accepted_more ts) (group_fault symbols t) refl h
    where
      go : (first_group_fault symbols ts ≡ None → AreAccepted symbols ts) → (o : Option GroupRule) → group_fault symbols t ≡ o → first_group_fault symbols (t ∷ ts) ≡ None → AreAccepted symbols (t ∷ ts)
      go rest None e h = (accepted_where_none t e, rest (later_none (first_group_fault symbols ts) (ap (λ o. refused_or o (first_group_fault symbols ts)) (sym e) ∙ h)))
      go rest (Some r) e h = absurd (let f : refused_or (Some r) (first_group_fault symbols ts) ≡ None = ap (λ o. refused_or o (first_group_fault symbols ts)) (sym e) ∙ h in cc)

  pub none_where_all : (ts : List Tree) → AreAccepted symbols ts → first_group_fault symbols ts ≡ None
  unfolding first_group_fault
  none_where_all [] m = refl
  none_where_all (t ∷ ts) m = ap (λ o. refused_or o (first_group_fault symbols ts)) (none_where_accepted t m.0) ∙ ap later (none_where_all ts m.1)

  more : (t : Tree) (ts : List Tree) (k : ℕ) (r : GroupRule) → IsAccepted symbols t → IsFirstGroupFault symbols ts k r → IsFirstGroupFault symbols (t ∷ ts) (suc k) r
  more t ts k r a m = record {
    before = t ∷ m.before;
    equivalence = m.equivalence;
    behind = m.behind;
    parts = ap (λ l. t ∷ l) m.parts;
    number = let n = m.number in omega arith;
    accepted = (a, m.accepted);
    broken = m.broken;
  }

  pub first_refused : (ts : List Tree) (k : ℕ) (r : GroupRule) → first_group_fault symbols ts ≡ Some (k, r) → IsFirstGroupFault symbols ts k r
  unfolding first_group_fault
  first_refused [] k r h = absurd (cc)
  first_refused (t ∷ ts) k r h = go (first_refused ts) (group_fault symbols t) refl h
    where
      later_some : ((j : ℕ) (q : GroupRule) → first_group_fault symbols ts ≡ Some (j, q) → IsFirstGroupFault symbols ts j q) → (o : Option (ℕ × GroupRule)) → first_group_fault symbols ts ≡ o → IsAccepted symbols t → later o ≡ Some (k, r) → IsFirstGroupFault symbols (t ∷ ts) k r
      later_some rest None e a f = absurd (cc)
      later_some rest (Some (j, q)) e a f =
          let both : (suc j, q) ≡ (k, r) = cc in
          let i : suc j ≡ k = ap (λ (p : ℕ × GroupRule). p.0) both in
          let s : q ≡ r = ap (λ (p : ℕ × GroupRule). p.1) both in
          let P : ℕ → Type 0 = λ n. IsFirstGroupFault symbols (t ∷ ts) n r in
          let Q : GroupRule → Type 0 = λ x. IsFirstGroupFault symbols ts j x in
          subst P i (more t ts j r a (subst Q s (rest j q e)))

      go : ((j : ℕ) (q : GroupRule) → first_group_fault symbols ts ≡ Some (j, q) → IsFirstGroupFault symbols ts j q) → (o : Option GroupRule) → group_fault symbols t ≡ o → first_group_fault symbols (t ∷ ts) ≡ Some (k, r) → IsFirstGroupFault symbols (t ∷ ts) k r
      go rest None e f = later_some rest (first_group_fault symbols ts) refl (accepted_where_none t e) (ap (λ o. refused_or o (first_group_fault symbols ts)) (sym e) ∙ f)
      go rest (Some q) e f =
          let g : refused_or (Some q) (first_group_fault symbols ts) ≡ Some (k, r) = ap (λ o. refused_or o (first_group_fault symbols ts)) (sym e) ∙ f in
          let both : (1, q) ≡ (k, r) = cc in
          let i : 1 ≡ k = ap (λ (p : ℕ × GroupRule). p.0) both in
          let s : q ≡ r = ap (λ (p : ℕ × GroupRule). p.1) both in
          let Q : GroupRule → Type 0 = λ x. IsFirstBroken symbols t x in
          record { before = []; equivalence = t; behind = ts; parts = refl; number = omega arith; accepted = tt; broken = subst Q s (first_broken t q e) }

  refused_behind : (before : List Tree) (t : Tree) (behind : List Tree) (r : GroupRule) → AreAccepted symbols before → IsFirstBroken symbols t r → first_group_fault symbols (before ++ t ∷ behind) ≡ Some (length before + 1, r)
  unfolding first_group_fault
  refused_behind [] t behind r m b = ap (λ o. refused_or o (first_group_fault symbols behind)) (broken_is_found t r b)
  refused_behind (p ∷ before) t behind r m b =
      let l : suc (length before + 1) ≡ length (p ∷ before) + 1 = omega arith in
      ap (λ o. refused_or o (first_group_fault symbols (before ++ t ∷ behind))) (none_where_accepted p m.0)
      ∙ (ap later (refused_behind before t behind r m.1 b) ∙ ap (λ n. Some (n, r)) l)

  pub refused_is_found : (ts : List Tree) (k : ℕ) (r : GroupRule) → IsFirstGroupFault symbols ts k r → first_group_fault symbols ts ≡ Some (k, r)
  refused_is_found ts k r m =
      ap (first_group_fault symbols) m.parts ∙ (refused_behind m.before m.equivalence m.behind r m.accepted m.broken ∙ ap (λ n. Some (n, r)) (sym m.number))
