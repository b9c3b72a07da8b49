-- The nodes of a game in preorder, each with what stands above it. A term in the indices of a read is none that may be replaced. This
-- profile's own.
use Rattle.std.specs.Prelude.{◌≡◌, ℕ, zero, suc, Bool, true, false, ◌==◌, if◌then◌else◌, List, [], ◌∷◌, ◌++◌, Option, Some, None}
use Rattle.cv_syntax_trees.specs.declared.head.Head.{Head}
use Rattle.cv_syntax_trees.specs.declared.head.Head.TheVariants.{Read}
use Rattle.cv_syntax_trees.specs.Head.{weight}
use Rattle.cv_syntax_trees.specs.Tree.{Tree, Empty, Node, first_place, second_place, subtree}
use Rattle.cv_scope_rules.specs.Above.{first_standing, second_standing, stands_at}
use Rattle.cv_scope_rules.specs.Context.{Context, first_position, nothing_known, second_position}
use Rattle.cv_scope_rules.specs.Phrases.{Phrase, Inputs, Nil, Term, parts}
use Rattle.cv_scope_rules.specs.declared.position.Position.{Position}
use Rattle.cv_scope_rules.specs.declared.position.Position.TheVariants.{Anywhere}

-- a node at its place, what it is in the grammar, and what stands above it
pub record Spot : Type 0 where
  pub place : ℕ
  pub phrase : Phrase
  pub above : Context
  pub tree : Tree

-- what the children of a node are

abbrev pub or_nil : Option (Phrase × Phrase) → Phrase × Phrase
or_nil None = (Nil, Nil)
or_nil (Some q) = q

abbrev pub parts_below : Phrase → Head → Phrase × Phrase
parts_below σ (Read x) = (Nil, Nil)
parts_below σ h = or_nil (parts σ h)

-- those of a tree that stands at a place
unfoldable pub spots_in : Phrase → Position → Context → (place : ℕ) → Tree → List Spot
spots_in σ w Γ p Empty = []
spots_in σ w Γ p (Node h a b) =
    (if weight h == 1 then record { place = p; phrase = σ; above = Γ; tree = Node h a b } ∷ [] else [])
    ++ (spots_in (parts_below σ h).0 (first_position w h) (first_standing w h Γ) (first_place p h) a
    ++ spots_in (parts_below σ h).1 (second_position w h) (second_standing w h a Γ) (second_place p h a) b)

abbrev pub spots : (game : Tree) → List Spot
spots game = spots_in Inputs Anywhere nothing_known 0 game

-- a term stands there that is no index and no cell
abbrev pub is_term : Phrase → Bool
is_term Term = true
is_term σ = false

-- these are the nodes at the places of the game, each with what stands above its place

abbrev pub places_from : (place count : ℕ) → List ℕ
places_from p zero = []
places_from p (suc n) = p ∷ places_from (suc p) n

pub record IsSpot (game : Tree) (v : Spot) : Type 0 where
  pub tree : subtree game v.place ≡ Some v.tree
  pub above : stands_at game v.place ≡ Some v.above
