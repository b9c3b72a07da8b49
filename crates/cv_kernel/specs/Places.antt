-- The places that a step lists.
use Rattle.std.specs.Prelude.{ℕ, Bool, nat_lt, List, [], ◌∷◌, ◌++◌}
use Rattle.std.specs.List.{list_any}
use Rattle.cv_syntax_trees.specs.declared.head.Head.TheVariants.{Number}
use Rattle.cv_syntax_trees.specs.Tree.{Tree, Empty, Node}

abbrev pub number_item : Tree → List ℕ
number_item (Node (Number v) a b) = v ∷ []
number_item t = []

unfoldable pub listed_numbers : Tree → List ℕ
listed_numbers Empty = []
listed_numbers (Node h item more) = number_item item ++ listed_numbers more

-- one of the numbers has more than 32 bits, so that no game has a place with it
abbrev pub has_long : List ℕ → Bool
has_long ps = list_any (λ p. nat_lt 4294967295 p) ps
