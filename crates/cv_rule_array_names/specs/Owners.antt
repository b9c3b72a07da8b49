-- Which name each copy of a variable gets in a run, and tapes on which the cells of the variable and of these names change places. This
-- profile's own.
use Rattle.std.specs.Prelude.{ℕ, Bool, ◌&&◌, ◌==◌, if◌then◌else◌, List, [], ◌∷◌}
use Rattle.cv_syntax_trees.specs.Tree.{Tree}
use Rattle.cv_meaning.specs.Experiments.{visits_of_run}
use Rattle.cv_meaning.specs.Interpretation.{Setting}
use Rattle.cv_meaning.specs.Memory.{tuple}
use Rattle.cv_meaning.specs.Runs.{Adversary, Mode}
use Rattle.cv_meaning.specs.Serving.{Visit}
use Rattle.cv_meaning.specs.Tapes.{Cell, New_at, Tape, same_tuple}
use Rattle.cv_scope_rules.specs.Made.{made_at}
use Rattle.cv_scope_rules.specs.Sites.{Variable}
use Rattle.cv_edit_names.specs.Naming.{Naming, name_at, naming_of}

-- a visit defines the variable at a copy
abbrev pub makes_at : (x : ℕ) → Visit → (copy : List ℕ) → Bool
makes_at x v w = made_at v.tree (Variable x) && same_tuple (tuple v.before.indices) w

-- the name of the first definition that visits make at a copy, or another name
unfoldable pub owner_in : Naming → (other : ℕ) → List Visit → (copy : List ℕ) → ℕ
owner_in n y [] w = y
owner_in n y (v ∷ vs) w = if makes_at n.variable v w then name_at n v.place else owner_in n y vs w

abbrev pub first_name : List ℕ → ℕ
first_name [] = 0
first_name (y ∷ ys) = y

-- the owner of each copy of the variable in the run of a game on a tape
abbrev pub owner_on : Setting → Mode → Adversary → (game : Tree) → (x : ℕ) → (names : List ℕ) → Tape → (copy : List ℕ) → ℕ
owner_on g m a game x ys t w = owner_in (naming_of game x ys) (first_name ys) (visits_of_run g m a game t) w

-- the cells of the variable and of the owners change places
abbrev pub exchanged_cell : (x : ℕ) → (owner : List ℕ → ℕ) → Cell → Cell
exchanged_cell x o (New_at z w) = if z == x then New_at (o w) w else if z == o w then New_at x w else New_at z w
exchanged_cell x o c = c

abbrev pub exchanged_tape : Setting → Mode → Adversary → (game : Tree) → (x : ℕ) → (names : List ℕ) → Tape → Tape
exchanged_tape g m a game x ys t c = t (exchanged_cell x (owner_on g m a game x ys t) c)
