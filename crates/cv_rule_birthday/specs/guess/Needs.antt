-- How many nodes are made where guesses are taken to be false: all those of the next game. This profile's own.
use Rattle.std.specs.Prelude.{ℕ, List}
use Rattle.cv_syntax_trees.specs.Tree.{Tree}
use Rattle.cv_syntax.specs.limits.Limits.{nodes_of}
use Rattle.cv_edit_places.specs.Changes.{need_at}
use Rattle.cv_rule_birthday.specs.guess.Guessing.{without_guesses}

abbrev pub made_without_guesses : (x : ℕ) → (places : List ℕ) → Tree → ℕ
made_without_guesses x ps game = nodes_of (without_guesses x ps game)

-- for how many nodes the pool is asked
abbrev pub need_guessing : (x : ℕ) → (places : List ℕ) → (game : Tree) → ℕ
need_guessing x ps game = need_at 0 (made_without_guesses x ps game) game
