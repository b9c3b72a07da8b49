-- An experiment that is asked doesn't test variables for which no query asks.
use Rattle.std.proofs.Common.{◌≡◌, ℕ, ◌==◌, ◌||◌, Bool, true, false, List, [], ◌∷◌, refl, ap, ◌∙◌, eq-eqb, eqb-true}
use Rattle.std.specs.List.{list_any}
use Rattle.std.proofs.lemmas.Bool.{both_ways, or_left, or_right}
use Rattle.cv_syntax_trees.specs.declared.head.Head.TheVariants.{Secret, SecretOnce}
use Rattle.cv_syntax_trees.specs.Tree.{Tree, Node}
use Rattle.cv_meaning.specs.Advantage.{IsAsked}
use Rattle.cv_meaning.specs.Experiments.{Breaks, Experiment, Guesses, mode_of}
use Rattle.cv_meaning.specs.Queries.{queries_in}
use Rattle.cv_meaning.specs.Runs.{Events, Random, Real}
use Rattle.cv_meaning_chances.specs.unread.Dropping.{IsUntested}
use Rattle.cv_scene.specs.Scenes.{Scene, asks_for, is_queried}
use Rattle.cv_steps_laws.proofs.Unnamed.{asked_untested}
use Rattle.cv_costs.specs.names.Naming.{asks_for_one, is_one_queried}

one_asked : (xs : ℕ → Bool) (y : ℕ) → xs y ≡ true → (q : Tree) → asks_for y q ≡ true → asks_for_one xs q ≡ true
one_asked xs y k (Node (Secret z) a b) e = ap xs (eqb-true z y e) ∙ k
one_asked xs y k (Node (SecretOnce z) a b) e = ap xs (eqb-true z y e) ∙ k
one_asked xs y k q e = absurd (both_ways false refl e)

one_queried : (xs : ℕ → Bool) (y : ℕ) → xs y ≡ true → (qs : List Tree) → list_any (asks_for y) qs ≡ true → list_any (asks_for_one xs) qs ≡ true
one_queried xs y k [] e = absurd (both_ways false refl e)
one_queried xs y k (q ∷ qs) e = go (asks_for y q) refl e (one_queried xs y k qs)
  where
    go : (v : Bool) → asks_for y q ≡ v → (v || list_any (asks_for y) qs) ≡ true → (list_any (asks_for y) qs ≡ true → list_any (asks_for_one xs) qs ≡ true) → (asks_for_one xs q || list_any (asks_for_one xs) qs) ≡ true
    go true f e l = or_left (asks_for_one xs q) (list_any (asks_for_one xs) qs) (one_asked xs y k q f)
    go false f e l = or_right (asks_for_one xs q) (list_any (asks_for_one xs) qs) (l e)

module _ (s : Scene) (xs : ℕ → Bool) (n : is_one_queried s xs ≡ false) where
  -- a variable for whose secrecy is asked is none of these
  other : (y : ℕ) → ((is_queried s y ≡ false) → (y == y) ≡ false) → xs y ≡ false
  other y k = go (xs y) refl (is_queried s y) refl
    where
      go : (v : Bool) → xs y ≡ v → (w : Bool) → is_queried s y ≡ w → v ≡ false
      go false e w f = refl
      go true e true f = absurd (both_ways (is_one_queried s xs) n (one_queried xs y e (queries_in s.declarations) f))
      go true e false f = absurd (both_ways (y == y) (k f) (eq-eqb y y refl))

  pub all_untested : (e : Experiment) → IsAsked (queries_in s.declarations) e → IsUntested xs (mode_of e)
  all_untested (Breaks q) a = tt
  all_untested (Guesses Events) a = absurd a
  all_untested (Guesses (Real one y)) a = other y (asked_untested s y (Guesses (Real one y)) a)
  all_untested (Guesses (Random one y)) a = other y (asked_untested s y (Guesses (Random one y)) a)
