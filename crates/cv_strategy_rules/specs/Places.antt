-- The places of a game at which a rule's own first condition holds. This profile's own.
use Rattle.std.specs.Prelude.{ℕ, Bool, ◌&&◌, List, is_some, filter}
use Rattle.cv_syntax_trees.specs.Tree.{Tree, size}
use Rattle.cv_scope_rules.specs.Phrases.{Inputs}
use Rattle.cv_scene.specs.Scenes.{part_at}
use Rattle.cv_steps.specs.Rewriting.{has_term_at}
use Rattle.cv_rule_birthday.specs.Comparing.{is_comparison}
use Rattle.cv_rule_birthday.specs.guess.Guessing.{compares_at}
use Rattle.cv_rule_fresh.specs.collisions.Equalities.{equality_at}
use Rattle.cv_settling_rules.specs.Spots.{places_from}

abbrev pub places_with : (ℕ → Bool) → (game : Tree) → List ℕ
places_with test game = filter test (places_from 0 (size game))

-- of `birthday`, but for that the variable has a site; of `guess`; and of `fresh`, that there is an equality at all

abbrev pub compared_places : (x : ℕ) → (game : Tree) → List ℕ
compared_places x game = places_with (λ p. has_term_at Inputs game p && is_comparison x (part_at game p)) game

abbrev pub guessed_places : (x : ℕ) → (game : Tree) → List ℕ
guessed_places x game = places_with (compares_at game x) game

abbrev pub equality_places : (game : Tree) → List ℕ
equality_places game = places_with (λ p. is_some (equality_at game p)) game
