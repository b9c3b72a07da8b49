-- When a list of events breaks a correspondence, as a sentence. Blanchet, CSF 2007.
use Rattle.std.specs.Prelude.{◌≡◌, ℕ, ◌<◌, ◌++◌, true, List, [], ◌∷◌, map, zip, Some, slice_get, Contains, MatchBool}
use Rattle.cv_syntax_trees.specs.Tree.{Tree}
use Rattle.cv_meaning.specs.Interpretation.{Setting}
use Rattle.cv_meaning.specs.Memory.{Happened, Indices, nowhere}
use Rattle.cv_meaning.specs.Terms.{value, values}
use Rattle.cv_meaning.specs.Correspondences.{Correspondence, Atom, RightEvent, RightTerm, left_values}

-- the element at a position
abbrev pub StandsAt : {A : Type 0} → List A → ℕ → A → Type 0
StandsAt xs k x = slice_get xs k ≡ Some x

-- a value of its type for each variable, and no other
abbrev pub AreValues : Setting → List (ℕ × ℕ) → List ℕ → Type 0
AreValues g [] [] = Unit {0}
AreValues g (x ∷ xs) (v ∷ vs) = (v < g.interpretation.type_size x.1) × AreValues g xs vs
AreValues g _ _ = ⊥

-- the values of a query's variables: those of the left event, and these for the ones on the right alone
abbrev pub query_values : Correspondence → Happened → List ℕ → Indices
query_values q e vs = left_values q e ++ zip (map (λ (x : ℕ × ℕ). x.0) q.others) vs

-- the event whose arguments have the values of these terms
abbrev pub right_event : Setting → Indices → ℕ → Tree → Happened
right_event g ρ f ms = record { event = f; values = values g ρ nowhere ms }

-- a right event was recorded, and a right term is true
abbrev pub Holds : Setting → List Happened → Indices → Atom → Type 0
Holds g es ρ (RightEvent inj f ms) = Contains es (right_event g ρ f ms)
Holds g es ρ (RightTerm m) = value g ρ nowhere m ≡ 1

-- the same, where a right event that is marked `inj` was recorded at this position
abbrev pub HoldsWith : Setting → List Happened → Indices → ℕ → Atom → Type 0
HoldsWith g es ρ p (RightEvent true f ms) = StandsAt es p (right_event g ρ f ms)
HoldsWith g es ρ p atom = Holds g es ρ atom

-- a left event was recorded at a position
abbrev pub IsLeftAt : Correspondence → List Happened → ℕ → Happened → Type 0
IsLeftAt q es i e = StandsAt es i e × (e.event ≡ q.event)

-- the plain form

-- for an alternative and some values of the variables on the right alone, the left event has the alternative's right events and
-- terms
pub record IsMet (g : Setting) (q : Correspondence) (es : List Happened) (e : Happened) : Type 0 where
  pub alternative : List (ℕ × Atom)
  pub is_alternative : Contains q.alternatives alternative
  pub others : List ℕ
  pub are_values : AreValues g q.others others
  pub hold : (k n : ℕ) (atom : Atom) → StandsAt alternative k (n, atom) → Holds g es (query_values q e others) atom

-- each left event that was recorded has
abbrev pub AllMet : Setting → Correspondence → List Happened → Type 0
AllMet g q es = (i : ℕ) (e : Happened) → IsLeftAt q es i e → IsMet g q es e

-- some left event that was recorded has not
abbrev pub HasUnmet : Setting → Correspondence → List Happened → Type 0
HasUnmet g q es = (i : ℕ) × (e : Happened) × IsLeftAt q es i e × (¬ IsMet g q es e)

-- the injective form

-- an atom with this number that is marked `inj` stands at a position
pub record IsMarkedAt (alternative : List (ℕ × Atom)) (position number : ℕ) : Type 0 where
  pub event : ℕ
  pub arguments : Tree
  pub stands : StandsAt alternative position (number, RightEvent true event arguments)

-- by the position of a left event: an alternative, values of the variables on the right alone, and a position for each right
-- event, by that of its atom in the alternative
pub record Choice : Type 0 where
  pub alternative : ℕ → List (ℕ × Atom)
  pub others : ℕ → List ℕ
  pub position : ℕ → ℕ → ℕ

-- under the choice each left event has the right events and terms of its alternative, and no two left events have a right event
-- that is marked `inj`, by its number, at one position
pub record IsMatching (g : Setting) (q : Correspondence) (es : List Happened) (c : Choice) : Type 0 where
  pub are_alternatives : (i : ℕ) (e : Happened) → IsLeftAt q es i e → Contains q.alternatives (c.alternative i)
  pub are_values : (i : ℕ) (e : Happened) → IsLeftAt q es i e → AreValues g q.others (c.others i)
  pub hold : (i : ℕ) (e : Happened) → IsLeftAt q es i e →
      (k n : ℕ) (atom : Atom) → StandsAt (c.alternative i) k (n, atom) →
      HoldsWith g es (query_values q e (c.others i)) (c.position i k) atom
  pub injective : (i j : ℕ) (d e : Happened) → IsLeftAt q es i d → IsLeftAt q es j e →
      (k m n : ℕ) → IsMarkedAt (c.alternative i) k n → IsMarkedAt (c.alternative j) m n →
      c.position i k ≡ c.position j m → i ≡ j

abbrev pub HasMatching : Setting → Correspondence → List Happened → Type 0
HasMatching g q es = (c : Choice) × IsMatching g q es c

-- the events keep the correspondence, or break it

abbrev pub IsKept : Setting → Correspondence → List Happened → Type 0
IsKept g q es = MatchBool q.inj (HasMatching g q es) (AllMet g q es)

abbrev pub IsBroken : Setting → Correspondence → List Happened → Type 0
IsBroken g q es = MatchBool q.inj (¬ HasMatching g q es) (HasUnmet g q es)
