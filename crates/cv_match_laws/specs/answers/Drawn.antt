-- What is drawn for the next game of a reduction. Blanchet and Pointcheval, CRYPTO 2006, for the game; which names and labels are
-- drawn is this profile's own.
use Rattle.std.specs.Prelude.{◌≡◌, ℕ, true, false, ◌==◌, List, length}
use Rattle.std.specs.List.{AllByRecursion, IsDistinct, list_any}
use Rattle.cv_syntax_trees.specs.Tree.{Tree}
use Rattle.cv_meaning.specs.contexts.Groups.{Right, side_group}
use Rattle.cv_scene.specs.Scenes.{is_new}
use Rattle.cv_scene.specs.Reductions.{Reduction, context_of_game}
use Rattle.cv_inline.specs.NextGame.{Calling, callings_of, next_of}
use Rattle.cv_inline.specs.Draws.{Draw, draws_of, drawn_by, label_draws, labels_from, labels_in}

-- the calls of the context
abbrev pub callings : Reduction → List Calling
callings r = callings_of (context_of_game r)

-- the names and the labels that are drawn, in order

abbrev pub draws : Reduction → List Draw
draws r = draws_of (side_group Right r.equivalence) (callings r)

abbrev pub finds : Reduction → List (ℕ × ℕ)
finds r = label_draws (callings r)

-- the next game with these names and labels
abbrev pub next_game : Reduction → (names labels : List ℕ) → Tree
next_game r names labels = next_of (context_of_game r) r.key (drawn_by (draws r) names (finds r) labels)

-- There is a name for each draw, none twice and none that the file or the game has, or that an answer has; the labels are the least
-- ones that no find of the game has.
pub record AreDrawnFor (r : Reduction) (names labels : List ℕ) : Type 0 where
  pub many : length names ≡ length (draws r)
  pub apart : IsDistinct ◌==◌ names
  pub new : AllByRecursion (λ y. is_new r.scene y ≡ true) names
  pub answers : (k : ℕ) → list_any (λ y. y == r.answer k) names ≡ false
  pub least : labels ≡ labels_from (labels_in r.scene.game) 1 (finds r)
