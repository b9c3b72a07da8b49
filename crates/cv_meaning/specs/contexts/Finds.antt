-- The candidates of a find in a body: calls that were made at the same key. Blanchet and Pointcheval,
-- CRYPTO 2006, for arrays that the functions of a side share. The order and the choice by one cell are
-- this profile's own.
use Rattle.std.specs.Prelude.{ℕ, suc, ◌%◌, Bool, true, false, ◌==◌, if◌then◌else◌, List, [], ◌∷◌, ◌++◌, length, is_some, flat_map, slice_get, Option, Some, None}
use Rattle.cv_syntax_trees.specs.declared.head.Head.TheVariants.{Leaf, Read, Binder}
use Rattle.cv_syntax_trees.specs.Tree.{Tree, Empty, Node, first, second}
use Rattle.cv_meaning.specs.Side.{CallNumber}
use Rattle.cv_meaning.specs.Interpretation.{Setting}
use Rattle.cv_meaning.specs.Terms.{is_one}
use Rattle.cv_meaning.specs.Candidates.{tuples_up_to}
use Rattle.cv_meaning.specs.contexts.Groups.{Function, Group, function_at}
use Rattle.cv_meaning.specs.contexts.Sites.{Site, sites_at, most_bounds, greatest_bound}
use Rattle.cv_meaning.specs.contexts.Frames.{Frame, with_call}
use Rattle.cv_meaning.specs.contexts.BodyTerms.{call_at, array_at, body_value}

-- a setting, a side's group, and the sites that call its functions
pub record Oracles : Type 0 where
  pub setting : Setting
  pub group : Group
  pub sites : List Site

abbrev pub function_of_site : Oracles → Site → Option Function
function_of_site o s = function_at o.group s.function

abbrev pub has_bound : ℕ → Option Function → Bool
has_bound n None = false
has_bound n (Some f) = f.bound == n

-- a branch, by number, with the call that its index stands for
pub record Pick : Type 0 where
  pub branch : ℕ
  pub number : CallNumber

-- whether a cell of a list is assigned: v[u] at the call of u, a plain name at this call
abbrev pub is_made : Frame → Tree → Bool
is_made e (Node (Leaf x) a b) = is_some (e.arrays x e.key e.number)
is_made e (Node (Read v) a b) = is_some (array_at e v (call_at e (first a)))
is_made e _ = false

abbrev pub are_made : Frame → Tree → Bool
are_made e Empty = true
are_made e (Node h a b) = elim (is_made e a) [ true ↦ are_made e b | false ↦ false ]

-- whether a branch, from its `defined` list on, is a candidate
abbrev pub is_pick : Setting → Frame → Tree → Bool
is_pick g e rest = elim (are_made e (first rest)) [ true ↦ is_one (body_value g e (first (second rest))) | false ↦ false ]

-- a branch with a call of this site at this tuple, where the index goes over the calls of the site's function
abbrev pub pick : Oracles → Frame → List ℕ → Site → ℕ → Tree → List Pick
pick o e w s k (Node h (Node (Binder u n) a b) rest) =
    elim (has_bound n (function_of_site o s)) [
      | true ↦ (let found : CallNumber = record { tuple = w; site = s.number } in if is_pick o.setting (with_call e u found) rest then record { branch = k; number = found } ∷ [] else [])
      | false ↦ []
    ]
pick o e w s k _ = []

-- the candidates with this call, by branch
unfoldable pub picks_at : Oracles → Frame → List ℕ → Site → ℕ → Tree → List Pick
picks_at o e w s k Empty = []
picks_at o e w s k (Node h branch more) = pick o e w s k branch ++ picks_at o e w s (suc k) more

-- all candidates, by tuple, then by site, and then by branch
unfoldable pub picks : Oracles → Frame → Tree → List Pick
picks o e branches =
    flat_map (λ w. flat_map (λ (s : Site). picks_at o e w s 0 branches) (sites_at o.sites w)) (tuples_up_to (most_bounds o.sites) (greatest_bound o.sites))

-- the candidate that a value of the find's cell chooses
unfoldable pub picked : List Pick → ℕ → Option Pick
picked [] v = None
picked (c ∷ cs) v = slice_get (c ∷ cs) (v % length (c ∷ cs))
