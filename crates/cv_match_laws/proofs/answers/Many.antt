-- Numbers above names serve as answers, and are none of these names.
use Rattle.std.proofs.Common.{◌≡◌, ℕ, ◌+◌, ◌<◌, ◌≤◌, Bool, true, false, ◌||◌, ◌==◌, nat_lt, max, List, [], ◌∷◌, refl, arith}
use Rattle.std.proofs.Math.Nat.{le-max_left, le-max_right}
use Rattle.std.proofs.lemmas.Bool.{both_ways, or_from}
use Rattle.std.proofs.lemmas.Bool.Decides.{nat_tests}
use Rattle.std.specs.List.{AllByRecursion, list_any}
use Rattle.cv_syntax_trees.specs.Declarations.{Declaration}
use Rattle.cv_syntax_trees.specs.Tree.{Tree}
use Rattle.cv_scene.specs.Contexts.{AreAnswers}
use Rattle.cv_scene.specs.Scenes.{KnowsQueries}
use Rattle.cv_match_laws.specs.answers.Answers.{KnowsConstants, above_names, answer_above, file_scene}
use Rattle.cv_match_laws.proofs.answers.Above.{unnamed_above}
use Rattle.cv_syntax_trees.proofs.lists.Tests.{false_from}

apart : (n j k : ℕ) → n + j ≡ n + k → j ≡ k
apart n j k e = omega (arith, e)

unknown : (own more m k : ℕ) → own ≤ more → more ≤ m → nat_lt (m + k) own ≡ false
unknown own more m k g h = grind (arith, nat_tests)

pub are_answers : (ds : List Declaration) (own more : ℕ) (game : Tree) (sites : ℕ) → own ≤ more → KnowsQueries (file_scene ds own game) → KnowsConstants (file_scene ds own game) → AreAnswers (file_scene ds own game) sites (answer_above more game)
are_answers ds own more game sites l q k =
    let new : (j : ℕ) → nat_lt (answer_above more game j) own ≡ false = λ j. unknown own more (max more (above_names game)) j l (le-max_left more (above_names game)) in
    record {
      apart = λ i j l m e. apart (max more (above_names game)) i j e;
      unknown = λ j l. new j;
      unnamed = λ j l. unnamed_above (answer_above more game j) game (let h : above_names game ≤ max more (above_names game) = le-max_right more (above_names game) in omega (arith, h));
      unasked = λ j l. false_from _ _ (q (answer_above more game j)) (new j);
      no_constant = λ j l. false_from _ _ (k (answer_above more game j)) (new j);
    }

less : (y m n k : ℕ) → y < n → n ≤ m → (y == (m + k)) ≡ false
less y m n k h g = grind (arith, nat_tests)

pub none_is : (more : ℕ) (game : Tree) (names : List ℕ) (k : ℕ) → AllByRecursion (λ y. y < more) names → list_any (λ y. y == answer_above more game k) names ≡ false
none_is more game [] k f = refl
none_is more game (y ∷ ys) k f =
    or_from (y == answer_above more game k) (list_any (λ y. y == answer_above more game k) ys)
    (less y (max more (above_names game)) more k f.0 (le-max_left more (above_names game))) (none_is more game ys k f.1)
