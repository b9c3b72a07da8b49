-- Which experiments are asked of one query of secrecy.
use Rattle.std.proofs.Common.{◌≡◌, ℕ, true, false, List, [], ◌∷◌, ◌⊎◌, inl, inr, Contains, arith}
use Rattle.std.proofs.lemmas.List.Elements.{Contains-push, Contains-push_cases}
use Rattle.cv_syntax_trees.specs.declared.head.Head.TheVariants.{Secret, SecretOnce}
use Rattle.cv_syntax_trees.specs.Tree.{Tree, lone}
use Rattle.cv_meaning.specs.Runs.{Real, Random}
use Rattle.cv_meaning.specs.Experiments.{Guesses}
use Rattle.cv_meaning.specs.Advantage.{IsAsked}

none_in_empty : (q : Tree) → Contains [] q → ⊥
none_in_empty q h = let k = h.1 in omega arith

only_one : (p q : Tree) → (p ≡ q → ⊥) → Contains (p ∷ []) q → ⊥
only_one p q apart h = go (Contains-push_cases [] p q h)
  where
    go : Contains [] q ⊎ (p ≡ q) → ⊥
    go (inl k) = none_in_empty q k
    go (inr e) = apart e

pub real_asked : (x : ℕ) → IsAsked (lone (Secret x) ∷ []) (Guesses (Real false x))
real_asked x = Contains-push [] (lone (Secret x))

pub random_asked : (x : ℕ) → IsAsked (lone (Secret x) ∷ []) (Guesses (Random false x))
random_asked x = Contains-push [] (lone (Secret x))

pub other_form : (x : ℕ) → IsAsked (lone (Secret x) ∷ []) (Guesses (Real true x)) → ⊥
other_form x = only_one (lone (Secret x)) (lone (SecretOnce x)) (λ e. cc)
