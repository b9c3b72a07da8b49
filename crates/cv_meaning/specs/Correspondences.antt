-- Correspondences, and when a list of events breaks one. Blanchet, CSF 2007.
use Rattle.std.specs.Prelude.{ℕ, suc, ◌+◌, Bool, true, false, ◌&&◌, not, ◌==◌, if◌then◌else◌, List, [], ◌∷◌, ◌++◌, filter, flat_map, map, zip}
use Rattle.std.specs.List.{list_any, list_all}
use Rattle.cv_syntax_trees.specs.declared.head.Head.TheVariants.{Cons, Occurs, OccursOnce, Leaf, Binder, SomeOf}
use Rattle.cv_syntax_trees.specs.Tree.{Tree, Empty, Node, first, second, reads_only}
use Rattle.cv_meaning.specs.Tapes.{same_tuple}
use Rattle.cv_meaning.specs.Interpretation.{Setting}
use Rattle.cv_meaning.specs.Memory.{Happened, Indices, nowhere}
use Rattle.cv_meaning.specs.Terms.{value, values, is_one}
use Rattle.cv_meaning.specs.Candidates.{below}

-- a right event, perhaps marked `inj`, or a right term
pub data Atom : Type 0 where
  RightEvent : (inj : Bool) → (event : ℕ) → (arguments : Tree) → Atom
  RightTerm : (term : Tree) → Atom

pub record Correspondence : Type 0 where
  pub inj : Bool
  pub event : ℕ
  pub variables : List ℕ  -- the arguments of the left event
  pub others : List (ℕ × ℕ)  -- the variables on the right alone, with their types
  pub alternatives : List (List (ℕ × Atom))  -- of the right side: in each its atoms, with their numbers

-- the correspondence of a query's tree

abbrev pub atom_of : Tree → Atom
atom_of (Node (Occurs e) a b) = RightEvent false e a
atom_of (Node (OccursOnce e) a b) = RightEvent true e a
atom_of m = RightTerm m

-- A right side is `SomeOf` of two, one of which must be met, or a list of which each item must be: an atom, or a right
-- side in parentheses. Its atoms count in the order of the text.

abbrev pub atom_count : Tree → ℕ
atom_count Empty = 0
atom_count (Node Cons a b) = atom_count a + atom_count b
atom_count (Node SomeOf a b) = atom_count a + atom_count b
atom_count m = 1

-- for each of the first ones in order, each of the others behind it
abbrev pub each_with : List (List (ℕ × Atom)) → List (List (ℕ × Atom)) → List (List (ℕ × Atom))
each_with xs ys = flat_map (λ x. map (λ y. x ++ y) ys) xs

-- the alternatives, where the first atom has this number
abbrev pub alternatives_from : ℕ → Tree → List (List (ℕ × Atom))
alternatives_from n Empty = [] ∷ []
alternatives_from n (Node Cons a b) = each_with (alternatives_from n a) (alternatives_from (n + atom_count a) b)
alternatives_from n (Node SomeOf a b) = alternatives_from n a ++ alternatives_from (n + atom_count a) b
alternatives_from n m = ((n, atom_of m) ∷ []) ∷ []

abbrev pub alternatives_of : Tree → List (List (ℕ × Atom))
alternatives_of right = alternatives_from 1 right

abbrev pub event_of : Tree → ℕ
event_of (Node (Occurs e) a b) = e
event_of (Node (OccursOnce e) a b) = e
event_of _ = 0

abbrev pub is_once : Tree → Bool
is_once (Node (OccursOnce e) a b) = true
is_once _ = false

abbrev pub leaf_name : Tree → ℕ
leaf_name (Node (Leaf x) a b) = x
leaf_name _ = 0

abbrev pub leaf_names : Tree → List ℕ
leaf_names Empty = []
leaf_names (Node h a b) = leaf_name a ∷ leaf_names b

-- the variables of a list of binders, with their types
abbrev pub typed_names : Tree → List (ℕ × ℕ)
typed_names (Node (Binder x T) a b) = (x, T) ∷ typed_names b
typed_names _ = []

abbrev pub reads : Tree → ℕ → Bool
reads m x = not (reads_only (λ y. not (y == x)) m)

-- the variables that are read on the right and are no argument of the left event
abbrev pub on_the_right_alone : Tree → List ℕ → Tree → List (ℕ × ℕ)
on_the_right_alone bs variables right = filter (λ (b : ℕ × ℕ). reads right b.0 && not (list_any (λ x. x == b.0) variables)) (typed_names bs)

abbrev pub correspondence_from : Tree → Tree → Tree → Correspondence
correspondence_from bs left right =
    record {
      inj = is_once left;
      event = event_of left;
      variables = leaf_names (first left);
      others = on_the_right_alone bs (leaf_names (first left)) right;
      alternatives = alternatives_of right;
    }

abbrev pub correspondence_of : Tree → Correspondence
correspondence_of q = correspondence_from (first q) (first (second q)) (second (second q))

-- the plain form

-- the event with these arguments, where the query's variables have these values
abbrev pub is_event : Setting → Indices → ℕ → Tree → Happened → Bool
is_event g ρ f ms e = (e.event == f) && same_tuple e.values (values g ρ nowhere ms)

abbrev pub holds : Setting → List Happened → Indices → Atom → Bool
holds g es ρ (RightEvent inj f ms) = list_any (is_event g ρ f ms) es
holds g es ρ (RightTerm m) = is_one (value g ρ nowhere m)

-- the values of the variables, each extended by all values of the other ones
unfoldable pub assignments : Setting → List (ℕ × ℕ) → Indices → List Indices
assignments g [] ρ = ρ ∷ []
assignments g (x ∷ xs) ρ = flat_map (λ v. assignments g xs (ρ ++ (x.0, v) ∷ [])) (below (g.interpretation.type_size x.1))

abbrev pub left_values : Correspondence → Happened → Indices
left_values q e = zip q.variables e.values

abbrev pub is_left : Correspondence → Happened → Bool
is_left q e = e.event == q.event

-- some values of the other variables make every atom of an alternative hold
abbrev pub can_hold : Setting → Correspondence → List Happened → Happened → List (ℕ × Atom) → Bool
can_hold g q es e atoms = list_any (λ ρ. list_all (λ (c : ℕ × Atom). holds g es ρ c.1) atoms) (assignments g q.others (left_values q e))

abbrev pub is_met : Setting → Correspondence → List Happened → Happened → Bool
is_met g q es e = list_any (can_hold g q es e) q.alternatives

-- the injective form

abbrev pub is_used : List (ℕ × ℕ) → ℕ → ℕ → Bool
is_used used n p = list_any (λ (c : ℕ × ℕ). (c.0 == n) && (c.1 == p)) used

-- the positions, from a number on, of the events that pass
unfoldable pub positions : (Happened → Bool) → ℕ → List Happened → List ℕ
positions p k [] = []
positions p k (e ∷ es) = (if p e then k ∷ [] else []) ++ positions p (suc k) es

-- the ways to give each atom of an alternative a position: what is used then. An atom that is marked `inj` gets no
-- position that an atom of its number had for an earlier left event
unfoldable pub ways : Setting → List Happened → Indices → (used : List (ℕ × ℕ)) → List (ℕ × Atom) → List (List (ℕ × ℕ))
ways g es ρ used [] = used ∷ []
ways g es ρ used ((n, RightTerm m) ∷ atoms) = if is_one (value g ρ nowhere m) then ways g es ρ used atoms else []
ways g es ρ used ((n, RightEvent inj f ms) ∷ atoms) =
    flat_map (λ p. if inj && is_used used n p then [] else map (λ after. if inj then (n, p) ∷ after else after) (ways g es ρ used atoms))
    (positions (is_event g ρ f ms) 0 es)

-- by the alternative and the values of the other variables
abbrev pub ways_for : Setting → Correspondence → List Happened → Happened → (used : List (ℕ × ℕ)) → List (ℕ × Atom) → List (List (ℕ × ℕ))
ways_for g q es e used atoms = flat_map (λ ρ. ways g es ρ used atoms) (assignments g q.others (left_values q e))

-- whether there is one choice for all left events
unfoldable pub can_match : Setting → Correspondence → List Happened → List Happened → List (ℕ × ℕ) → Bool
can_match g q es [] used = true
can_match g q es (e ∷ lefts) used =
    if is_left q e
    then list_any (can_match g q es lefts) (flat_map (ways_for g q es e used) q.alternatives)
    else can_match g q es lefts used

unfoldable pub broken : Setting → Correspondence → List Happened → Bool
broken g q es = if q.inj then not (can_match g q es es []) else list_any (λ e. is_left q e && not (is_met g q es e)) es
