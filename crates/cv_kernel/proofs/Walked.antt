-- What stands behind transitions: the game that they lead to, and how many nodes they take.
use Rattle.std.proofs.Common.{◌≡◌, ℕ, ◌+◌, Bool, List, [], ◌∷◌, ◌++◌, refl, arith}
use Rattle.cv_syntax_trees.specs.Declarations.{Declaration}
use Rattle.cv_syntax_trees.specs.Tree.{Tree}
use Rattle.cv_kernel.specs.Proofs.{IsProof, Transition, nodes_along, push, start}
use Rattle.cv_kernel.specs.Sequences.{needed_for}
use Rattle.cv_script.specs.Views.{items_of_step}
use Rattle.cv_steps.specs.Sequences.{scene}

-- the game that transitions lead to
abbrev pub last_game : Tree → List Transition → Tree
last_game first [] = first
last_game first (t ∷ ts) = last_game t.next ts

last_behind : (first : Tree) (ts : List Transition) (t : Transition) → last_game first (ts ++ t ∷ []) ≡ t.next
last_behind first [] t = refl
last_behind first (u ∷ ts) t = last_behind u.next ts t

module _ (ds : List Declaration) (known : ℕ → Bool) where
  pub last_is : (first : Tree) (ts : List Transition) (last : Tree) → IsProof ds known first ts last → last_game first ts ≡ last
  last_is first ts last start = refl
  last_is first ts last (push before game t p i) = last_behind first before t

  pub nodes_append : (first : Tree) (ts : List Transition) (t : Transition) → nodes_along ds known first (ts ++ t ∷ []) ≡ nodes_along ds known first ts + needed_for (scene ds known (last_game first ts)) t.step t.next (items_of_step t.step)
  nodes_append first [] t = omega arith
  nodes_append first (u ∷ ts) t = let e = nodes_append u.next ts t in omega arith
