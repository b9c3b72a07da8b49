-- Constructs of a game at values of their replication indices. This profile's own.
use Rattle.std.specs.Prelude.{◌≡◌, ℕ, Bool, false, ◌&&◌, ◌==◌, if◌then◌else◌, List, [], ◌∷◌, ◌++◌, map, Some}
use Rattle.cv_syntax_trees.specs.declared.head.Head.TheVariants.{In, New, Find}
use Rattle.cv_syntax_trees.specs.Head.{weight}
use Rattle.cv_syntax_trees.specs.Tree.{Tree, Empty, Node, subtree}
use Rattle.cv_meaning.specs.Tapes.{same_tuple}
use Rattle.cv_meaning.specs.Memory.{tuple}
use Rattle.cv_meaning.specs.Inputs.{Input}
use Rattle.cv_meaning.specs.Serving.{Visit}

-- a place of the game, with the values of the indices there
pub record Spot : Type 0 where
  pub place : ℕ
  pub tuple : List ℕ

-- one place, with one value of each index
abbrev pub same_spot : Spot → Spot → Bool
same_spot s r = (s.place == r.place) && same_tuple s.tuple r.tuple

-- where a copy of an input stands
abbrev pub spot_of_input : Input → Spot
spot_of_input i = record { place = i.place; tuple = tuple i.indices }

-- a list of bodies has no place of its own
abbrev pub has_place : Tree → Bool
has_place Empty = false
has_place (Node h a b) = weight h == 1

-- the spot of a visit, if its node has a place
abbrev pub spots_of_visit : Visit → List Spot
spots_of_visit v = if has_place v.tree then record { place = v.place; tuple = tuple v.before.indices } ∷ [] else []

-- those of visits, and of copies of inputs, in order
abbrev pub spots_of_visits : List Visit → List Spot
spots_of_visits [] = []
spots_of_visits (v ∷ vs) = spots_of_visit v ++ spots_of_visits vs

abbrev pub spots_of_inputs : List Input → List Spot
spots_of_inputs is = map spot_of_input is

-- two copies that answer to the same calls
abbrev pub same_address : Input → Input → Bool
same_address i j = (i.channel == j.channel) && same_tuple (tuple i.indices) (tuple j.indices)

-- no channel is of two inputs of the game
abbrev pub HasOwnChannels : Tree → Type 0
HasOwnChannels game =
    (p q c : ℕ) (a b d e : Tree) → subtree game p ≡ Some (Node (In c) a b) → subtree game q ≡ Some (Node (In c) d e) → p ≡ q

-- no name of a restriction, and no label of a find, is of two constructs of the game
pub record HasOwnNames (game : Tree) : Type 0 where
  pub names : (p q x T S : ℕ) (a b d e : Tree) → subtree game p ≡ Some (Node (New x T) a b) → subtree game q ≡ Some (Node (New x S) d e) → p ≡ q
  pub labels : (p q l : ℕ) (a b d e : Tree) → subtree game p ≡ Some (Node (Find l) a b) → subtree game q ≡ Some (Node (Find l) d e) → p ≡ q
