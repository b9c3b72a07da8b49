-- Equalities of a value that is chosen at random and that nothing else reads: where the value is read, where it is defined, and the game
-- with `false` for these equalities. This profile's own.
use Rattle.std.specs.Prelude.{ℕ, Bool, true, false, ◌&&◌, ◌||◌, not, if◌then◌else◌, List, [], ◌∷◌, Option, Some, None}
use Rattle.cv_syntax_trees.specs.declared.head.Head.{Head}
use Rattle.cv_syntax_trees.specs.declared.head.Head.TheVariants.{Eq}
use Rattle.cv_syntax_trees.specs.Tree.{Tree, Empty, Node, first_place, second_place}
use Rattle.cv_scene.specs.lines.Truths.{no}
use Rattle.cv_syntax_trees.specs.sites.Sites.{first_of}
use Rattle.cv_scope_rules.specs.Phrases.{Phrase, Nil, Inputs}
use Rattle.cv_scene.specs.Scenes.{head_reads, part_at}
use Rattle.cv_steps.specs.Rewriting.{has_term_at, is_term, parts_of}
use Rattle.cv_rule_birthday.specs.Comparing.{is_one_of}

-- a set of places, of which most are none
abbrev pub Places : Type 0
Places = ℕ → Bool

-- the term is a read of the variable, at whatever indices
abbrev pub reads : (x : ℕ) → Tree → Bool
reads x Empty = false
reads x (Node h a b) = head_reads x h

-- an equality with a side that reads the variable
abbrev pub compares : (x : ℕ) → Tree → Bool
compares x (Node Eq l r) = reads x l || reads x r
compares x t = false

-- so is what stands at a place: a term of a construct or of a condition, in no index and in no cell
abbrev pub compares_at : (game : Tree) → (x place : ℕ) → Bool
compares_at game x p = has_term_at Inputs game p && compares x (part_at game p)

abbrev pub is_equality : Head → Bool
is_equality Eq = true
is_equality h = false

-- a term at one of the places is such an equality
abbrev pub is_guess : (x : ℕ) → Places → Phrase → (place : ℕ) → Head → (left right : Tree) → Bool
is_guess x ps σ p h a b = is_term σ && (is_equality h && (ps p && (reads x a || reads x b)))

-- A tree that stands at a place, with `false` for the equalities at some places of which a side reads the variable: where one stands
-- inside another the outer one counts.
unfoldable pub falsified : (x : ℕ) → Places → Phrase → (place : ℕ) → Tree → Tree
falsified x ps σ p Empty = Empty
falsified x ps σ p (Node h a b) =
    if is_guess x ps σ p h a b then no
    else Node h (falsified x ps (parts_of σ h).0 (first_place p h) a) (falsified x ps (parts_of σ h).1 (second_place p h a) b)

-- the game with `false` at the places
abbrev pub without_guesses : (x : ℕ) → (places : List ℕ) → Tree → Tree
without_guesses x ps game = falsified x (is_one_of ps) Inputs 0 game

-- values are read of terms, and of their indices and those of cells
abbrev pub has_value : Phrase → Bool
has_value Nil = true
has_value σ = is_term σ

-- The first place where the value of the variable is read in a tree that stands at a place, but for one side of each equality at these
-- places: the left one where that reads it, else the right one. The tree itself may be such a side.
unfoldable pub first_read : (x : ℕ) → Places → Phrase → (is_side : Bool) → (place : ℕ) → Tree → Option ℕ
first_read x ps σ side p Empty = None
first_read x ps σ side p (Node h a b) =
    if has_value σ && (head_reads x h && not side) then Some p
    else first_of
    (first_read x ps (parts_of σ h).0 (is_guess x ps σ p h a b && reads x a) (first_place p h) a)
    (first_read x ps (parts_of σ h).1 (is_guess x ps σ p h a b && not (reads x a)) (second_place p h a) b)

abbrev pub first_other_read : (places : List ℕ) → (x : ℕ) → (game : Tree) → Option ℕ
first_other_read ps x game = first_read x (is_one_of ps) Inputs false 0 game

-- the first of some places that is none of these

abbrev pub first_outside : Places → List ℕ → Option ℕ
first_outside among [] = None
first_outside among (p ∷ ps) = if among p then first_outside among ps else Some p
