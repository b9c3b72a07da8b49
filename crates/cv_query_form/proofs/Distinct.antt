-- The test of a left event's arguments decides whether they are distinct variables.
use Rattle.std.proofs.Common.{◌≡◌, ℕ, Bool, true, false, cond, List, [], ◌∷◌, inl, inr, refl, ap, sym, ◌∙◌, eqb-true}
use Rattle.std.specs.Prelude.{◌==◌}
use Rattle.std.specs.List.{AllByRecursion}
use Rattle.std.proofs.lemmas.Bool.{and_parts, and_from, or_cases, or_left, or_right, both_ways, eq-eqb}
use Rattle.cv_syntax_trees.specs.declared.head.Head.TheVariants.{Leaf, Cons}
use Rattle.cv_syntax_trees.specs.Tree.{Tree, Empty, Node, lone}
use Rattle.cv_syntax.specs.NameSets.{is_one_of}
use Rattle.cv_query_form.specs.Rules.{IsOneOf, AreDistinct, reads_of, AreDistinctVariables}
use Rattle.cv_query_form.specs.Tests.{without, are_distinct}

one_found : (xs : List ℕ) (x : ℕ) → is_one_of xs x ≡ true → IsOneOf xs x
one_found [] x e = absurd (both_ways _ refl e)
one_found (y ∷ ys) x e = elim (or_cases (y == x) (is_one_of ys x) e) [ inl k ↦ inl (eqb-true y x k) | inr k ↦ inr (one_found ys x k) ]

one_tested : (xs : List ℕ) (x : ℕ) → IsOneOf xs x → is_one_of xs x ≡ true
one_tested [] x m = absurd m
one_tested (y ∷ ys) x (inl k) = or_left (y == x) _ (eq-eqb y x k)
one_tested (y ∷ ys) x (inr k) = or_right (y == x) _ (one_tested ys x k)

abbrev AreFree : (ℕ → Bool) → List ℕ → Type 0
AreFree free xs = AllByRecursion (λ x. free x ≡ true) xs

-- what is taken away is no longer free
taken : (free : ℕ → Bool) (x : ℕ) → without free x x ≡ false
taken free x = ap (λ b. cond b false (free x)) (eq-eqb x x refl)

still_free : (free : ℕ → Bool) (x y : ℕ) → without free x y ≡ true → free y ≡ true
still_free free x y e = cases (x == y) (free y) e
  where
    cases : (b c : Bool) → cond b false c ≡ true → c ≡ true
    cases true c e = absurd (both_ways _ refl e)
    cases false c e = e

all_still_free : (free : ℕ → Bool) (x : ℕ) (ys : List ℕ) → AreFree (without free x) ys → AreFree free ys
all_still_free free x [] m = tt
all_still_free free x (y ∷ ys) m = (still_free free x y m.0, all_still_free free x ys m.1)

not_taken : (free : ℕ → Bool) (x : ℕ) (ys : List ℕ) → AreFree (without free x) ys → IsOneOf ys x → ⊥
not_taken free x [] m o = o
not_taken free x (y ∷ ys) m (inl e) = both_ways _ (taken free x) (ap (without free x) (sym e) ∙ m.0)
not_taken free x (y ∷ ys) m (inr o) = not_taken free x ys m.1 o

-- what is not taken away stays free
stays : (free : ℕ → Bool) (x y : ℕ) → (y ≡ x → ⊥) → free y ≡ true → without free x y ≡ true
stays free x y n f = cases (x == y) refl
  where
    cases : (b : Bool) → (x == y) ≡ b → without free x y ≡ true
    cases true e = absurd (n (sym (eqb-true x y e)))
    cases false e = ap (λ b. cond b false (free y)) e ∙ f

all_stay : (free : ℕ → Bool) (x : ℕ) (ys : List ℕ) → (IsOneOf ys x → ⊥) → AreFree free ys → AreFree (without free x) ys
all_stay free x [] n m = tt
all_stay free x (y ∷ ys) n m = (stays free x y (λ e. n (inl e)) m.0, all_stay free x ys (λ o. n (inr o)) m.1)

-- the terms read free variables, none twice
record Reads (free : ℕ → Bool) (terms : Tree) : Type 0 where
  variables : List ℕ
  read : terms ≡ reads_of variables
  are_free : AreFree free variables
  distinct : AreDistinct variables

reads_found : (free : ℕ → Bool) (terms : Tree) → are_distinct free terms ≡ true → Reads free terms
unfolding are_distinct
reads_found free Empty e = record { variables = []; read = refl; are_free = tt; distinct = tt }
reads_found free (Node Cons (Node (Leaf x) Empty Empty) more) e =
    let p = and_parts (free x) (are_distinct (without free x) more) e in
    let r = reads_found (without free x) more p.1 in
    record {
      variables = x ∷ r.variables;
      read = ap (Node Cons (lone (Leaf x))) r.read;
      are_free = (p.0, all_still_free free x r.variables r.are_free);
      distinct = (not_taken free x r.variables r.are_free, r.distinct);
    }
reads_found free t e = absurd (both_ways _ refl e)

reads_tested : (free : ℕ → Bool) (xs : List ℕ) → AreFree free xs → AreDistinct xs → are_distinct free (reads_of xs) ≡ true
unfolding are_distinct
reads_tested free [] m d = refl
reads_tested free (x ∷ xs) m d = and_from (free x) _ m.0 (reads_tested (without free x) xs (all_stay free x xs d.0 m.1) d.1)

all_found : (xs ys : List ℕ) → AreFree (is_one_of xs) ys → AllByRecursion (IsOneOf xs) ys
all_found xs [] m = tt
all_found xs (y ∷ ys) m = (one_found xs y m.0, all_found xs ys m.1)

all_tested : (xs ys : List ℕ) → AllByRecursion (IsOneOf xs) ys → AreFree (is_one_of xs) ys
all_tested xs [] m = tt
all_tested xs (y ∷ ys) m = (one_tested xs y m.0, all_tested xs ys m.1)

pub arguments_found : (xs : List ℕ) (terms : Tree) → are_distinct (is_one_of xs) terms ≡ true → AreDistinctVariables xs terms
arguments_found xs terms e =
    let r = reads_found (is_one_of xs) terms e in
    record { variables = r.variables; read = r.read; bound = all_found xs r.variables r.are_free; distinct = r.distinct }

pub arguments_tested : (xs : List ℕ) (terms : Tree) → AreDistinctVariables xs terms → are_distinct (is_one_of xs) terms ≡ true
arguments_tested xs terms m = ap (are_distinct (is_one_of xs)) m.read ∙ reads_tested (is_one_of xs) m.variables (all_tested xs m.variables m.bound) m.distinct
