-- How many nodes are made where comparisons of cells become those of indices: those above them, and the new ones. This profile's own.
use Rattle.std.specs.Prelude.{ℕ, ◌+◌, Bool, if◌then◌else◌, List, [], ◌∷◌}
use Rattle.cv_syntax_trees.specs.declared.head.Head.TheVariants.{Eq}
use Rattle.cv_syntax_trees.specs.Tree.{Tree, Empty, Node, first, first_place, second_place}
use Rattle.cv_scope_rules.specs.Context.{items}
use Rattle.cv_costs.specs.wording.Changing.{is_changed}
use Rattle.cv_edit_places.specs.Changes.{need_at}
use Rattle.cv_rule_birthday.specs.Comparing.{is_one_of}

-- equations between two lists, joined
abbrev pub made_of_equations : (ms ns : List Tree) → ℕ
made_of_equations (m ∷ []) (n ∷ []) = 1
made_of_equations (m ∷ ms) (n ∷ ns) = made_of_equations ms ns + 2
made_of_equations ms ns = 0

abbrev pub made_of_indices : (ms ns : List Tree) → ℕ
made_of_indices [] ns = 1
made_of_indices (m ∷ ms) ns = made_of_equations (m ∷ ms) ns

abbrev pub made_of_compared : Tree → ℕ
made_of_compared (Node Eq l r) = made_of_indices (items (first l)) (items (first r))
made_of_compared t = 0

-- in a tree that stands at a place
unfoldable pub made_of_changed : (places : ℕ → Bool) → (at : ℕ) → Tree → ℕ
made_of_changed places p Empty = 0
made_of_changed places p (Node h a b) =
    if is_changed places p h then made_of_compared (Node h a b)
    else made_of_changed places (first_place p h) a + made_of_changed places (second_place p h a) b + 1

-- for how many nodes the pool is asked
abbrev pub need_comparing : (places : List ℕ) → (game : Tree) → ℕ
need_comparing ps game = need_at 0 (made_of_changed (is_one_of ps) 0 game) game
