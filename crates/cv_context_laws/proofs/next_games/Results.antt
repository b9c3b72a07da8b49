-- The results of the calls of a statement, by the names of their answers.
use Rattle.std.proofs.Common.{◌≡◌, ℕ, suc, ◌+◌, ◌<◌, ◌≤◌, Bool, true, false, cond, ◌==◌, List, [], ◌∷◌, length, refl, ap, subst, ◌∙◌, eq-eqb, eqb-true, arith}
use Rattle.std.proofs.lemmas.Bool.{both_ways}
use Rattle.cv_syntax_trees.specs.Tree.{Tree}
use Rattle.cv_inline.specs.NextGame.{Results, result_for}

-- with these results for the answers from a number on
abbrev pub results_from : (answer : ℕ → ℕ) → ℕ → List Tree → Results → Results
results_from answer j [] o = o
results_from answer j (m ∷ ms) o = results_from answer (suc j) ms ((answer j, m) ∷ o)

pub passed : (answer : ℕ → ℕ) (x : ℕ) (d : Tree) (ms : List Tree) (j : ℕ) (o : Results) → ((k : ℕ) → j ≤ k → (answer k == x) ≡ false) → result_for (results_from answer j ms o) x d ≡ result_for o x d
passed answer x d [] j o f = refl
passed answer x d (m ∷ ms) j o f =
    passed answer x d ms (suc j) ((answer j, m) ∷ o) (λ k l. f k (omega arith))
    ∙ ap (λ b. cond b m (result_for o x d)) (f j (omega arith))

other : (answer : ℕ → ℕ) → ((j k : ℕ) → answer j ≡ answer k → j ≡ k) → (j k : ℕ) → j < k → (answer k == answer j) ≡ false
other answer apart j k l = go (answer k == answer j) refl
  where
    go : (b : Bool) → (answer k == answer j) ≡ b → b ≡ false
    go false e = refl
    go true e = absurd (let z : k ≡ j = apart k j (eqb-true (answer k) (answer j) e) in omega arith)

pub result_here : (answer : ℕ → ℕ) → ((j k : ℕ) → answer j ≡ answer k → j ≡ k) → (d m : Tree) (ms : List Tree) (j : ℕ) (o : Results) → result_for (results_from answer j (m ∷ ms) o) (answer j) d ≡ m
result_here answer apart d m ms j o =
    passed answer (answer j) d ms (suc j) ((answer j, m) ∷ o) (λ k l. other answer apart j k (omega arith))
    ∙ ap (λ b. cond b m (result_for o (answer j) d)) (eq-eqb (answer j) (answer j) refl)

-- the same result for both names of an answer
pub record AreAlike (f g : ℕ → ℕ) (o p : Results) (i : ℕ) : Type 0 where
  pub result : Tree
  pub first : (d : Tree) → result_for o (f i) d ≡ result
  pub second : (d : Tree) → result_for p (g i) d ≡ result

module _ (f g : ℕ → ℕ) (apart : (j k : ℕ) → f j ≡ f k → j ≡ k) (apart_too : (j k : ℕ) → g j ≡ g k → j ≡ k) where
  pub alike : (ms : List Tree) (j i : ℕ) (o p : Results) → j ≤ i → i < j + length ms → AreAlike f g (results_from f j ms o) (results_from g j ms p) i
  alike [] j i o p l u = absurd (omega arith)
  alike (m ∷ ms) j i o p l u = go (j == i) refl (λ n. alike ms (suc j) i ((f j, m) ∷ o) ((g j, m) ∷ p) (let z : j ≡ i → ⊥ = n in omega arith) (omega arith))
    where
      here : (i : ℕ) → j ≡ i → AreAlike f g (results_from f j (m ∷ ms) o) (results_from g j (m ∷ ms) p) i
      here i e =
          subst (AreAlike f g (results_from f j (m ∷ ms) o) (results_from g j (m ∷ ms) p)) e
          (record { result = m; first = λ d. result_here f apart d m ms j o; second = λ d. result_here g apart_too d m ms j p })

      go : (b : Bool) → (j == i) ≡ b → ((j ≡ i → ⊥) → AreAlike f g (results_from f j (m ∷ ms) o) (results_from g j (m ∷ ms) p) i) → AreAlike f g (results_from f j (m ∷ ms) o) (results_from g j (m ∷ ms) p) i
      go true e k = here i (eqb-true j i e)
      go false e k = k (λ z. both_ways _ e (eq-eqb j i z))
