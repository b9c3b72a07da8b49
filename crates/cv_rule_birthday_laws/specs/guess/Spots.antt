-- Where the values of a variable are guessed in a game, and how many copies there are of each such place. This profile's own.
use Rattle.std.specs.Prelude.{◌≡◌, ℕ, false, ◌==◌, if◌then◌else◌, List, [], ◌∷◌, ◌++◌, map, Some}
use Rattle.cv_syntax_trees.specs.declared.head.Head.{Head}
use Rattle.cv_syntax_trees.specs.declared.head.Head.TheVariants.{Branch, Cons, Read}
use Rattle.cv_syntax_trees.specs.Tree.{Tree, Empty, Node, first_place, second_place}
use Rattle.cv_meaning.specs.Interpretation.{Setting}
use Rattle.cv_meaning.specs.Memory.{Indices, Store}
use Rattle.cv_meaning.specs.Terms.{value, values}
use Rattle.cv_scope_rules.specs.Context.{replications_below}
use Rattle.cv_scope_rules.specs.Phrases.{Arm, Body, Guarded, Inputs, Phrase}
use Rattle.cv_path.specs.Copies.{parameters}
use Rattle.cv_steps.specs.Rewriting.{parts_of}
use Rattle.cv_rule_birthday.specs.guess.Guessing.{Places, falsified, is_guess, reads}

-- A guess: an equality of the game, by its place there, the place of its construct in the next game, the replications above it and the
-- indices of the branch in whose condition it stands; and its two sides, with `false` for guesses in them: the read of the variable, and
-- the other one.
pub record Spot : Type 0 where
  pub origin : ℕ
  pub place : ℕ
  pub replications : List (ℕ × ℕ)
  pub binders : Tree
  pub side : Tree
  pub other : Tree

-- by the sides of the equality in the game, and those with `false` for guesses
abbrev pub spot_of : (x origin place : ℕ) → List (ℕ × ℕ) → (binders left right : Tree) → (next_left next_right : Tree) → Spot
spot_of x o p rs us l r m n = record { origin = o; place = p; replications = rs; binders = us; side = if reads x l then m else n; other = if reads x l then n else m }

-- terms stand at the place of their construct
abbrev pub construct_below : Phrase → (here above : ℕ) → ℕ
construct_below Inputs q at = q
construct_below Body q at = q
construct_below σ q at = at

-- the indices of a branch stand above its list and its condition
abbrev pub binders_below : Phrase → Head → (first above : Tree) → Tree
binders_below Arm Branch a us = a
binders_below Guarded Cons a us = Empty
binders_below σ h a us = us

-- The guesses of a tree that stands at a place, at another one in the next game, in a construct, below replications and indices.
unfoldable pub spots : (x : ℕ) → Places → Phrase → (place next construct : ℕ) → List (ℕ × ℕ) → (binders : Tree) → Tree → List Spot
spots x ps σ p q at rs us Empty = []
spots x ps σ p q at rs us (Node h a b) =
    (if is_guess x ps σ p h a b then
    spot_of x p at rs us a b (falsified x ps (parts_of σ h).0 (first_place p h) a) (falsified x ps (parts_of σ h).1 (second_place p h a) b) ∷ []
    else [])
    ++ (spots x ps (parts_of σ h).0 (first_place p h) (first_place q h) (construct_below σ q at) rs us a
    ++ spots x ps (parts_of σ h).1 (second_place p h a) (second_place q h (falsified x ps (parts_of σ h).0 (first_place p h) a)) (construct_below σ q at)
    (replications_below h rs) (binders_below σ h a us) b)

abbrev pub spots_of : (x : ℕ) → Places → (game : Tree) → List Spot
spots_of x ps game = spots x ps Inputs 0 0 0 [] Empty game

-- the parameters of a guess's copies
abbrev pub parameters_of_spot : Spot → List ℕ
parameters_of_spot s = map (λ (r : ℕ × ℕ). r.1) s.replications ++ parameters s.binders

-- the tuple at which a read reads
abbrev pub tuple_of : Setting → Indices → Store → Tree → List ℕ
tuple_of g at n (Node (Read y) a b) = values g at n a
tuple_of g at n t = []

-- where the variable is assigned, its value is another one than that of the other side
abbrev pub Misses : Setting → (x : ℕ) → Indices → Store → (side other : Tree) → Type 0
Misses g x at n m o = (r : ℕ) → n x (tuple_of g at n m) ≡ Some r → (r == value g at n o) ≡ false
