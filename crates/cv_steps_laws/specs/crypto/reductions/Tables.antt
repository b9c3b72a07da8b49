-- What a table of drawn names has to do with a reduction. This profile's own.
use Rattle.std.specs.Prelude.{◌≡◌, ℕ, ◌<◌, true, List, All}
use Rattle.cv_syntax_trees.specs.Tree.{Tree}
use Rattle.cv_syntax_trees.specs.Declarations.{Declaration}
use Rattle.cv_scene.specs.Reductions.{Reduction, context_of_game}
use Rattle.cv_scene.specs.Scenes.{Scene, names}
use Rattle.cv_meaning.specs.contexts.Inlined.{Drawn}
use Rattle.cv_inline.specs.Draws.{labels_from, labels_in}
use Rattle.cv_inline.specs.NextGame.{next_of}
use Rattle.cv_inline_draws.specs.names.Texts.{is_listed}
use Rattle.cv_match_laws.specs.answers.Answers.{answer_above, file_scene}
use Rattle.cv_match_laws.specs.answers.Drawn.{AreDrawnFor, finds, next_game}

-- the game's names are numbers below a count
abbrev pub HasNamesBelow : ℕ → Tree → Type 0
HasNamesBelow count game = (x : ℕ) → names x game ≡ true → x < count

-- all names of file and game are among these, which are numbers below a count
pub record AreTaken (s : Scene) (count : ℕ) (taken : List ℕ) : Type 0 where
  pub known : (x : ℕ) → s.known x ≡ true → is_listed taken x ≡ true
  pub named : (x : ℕ) → names x s.game ≡ true → is_listed taken x ≡ true
  pub below : All (λ x. x < count) taken

-- the least labels that no find of the game has
abbrev pub labels : Reduction → List ℕ
labels r = labels_from (labels_in r.scene.game) 1 (finds r)

-- The table has names and labels that are drawn for the reduction, and so gives its next game.
pub record GivesNextGame (r : Reduction) (d : Drawn) : Type 0 where
  pub names : List ℕ
  pub drawn : AreDrawnFor r names (labels r)
  pub game : next_of (context_of_game r) r.key d ≡ next_game r names (labels r)

-- a step of a file that has the first names, with answers above its names, the game's and so many more
abbrev pub step_of_file : List Declaration → (own more : ℕ) → (game equivalence : Tree) → (key : ℕ) → Reduction
step_of_file ds own more game e x = record { scene = file_scene ds own game; equivalence = e; key = x; answer = answer_above more game }
