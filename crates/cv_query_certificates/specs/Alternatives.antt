-- Which alternative of a query's right side a certificate chooses at a place. This profile's own.
use Rattle.std.specs.Prelude.{ℕ, List, [], ◌∷◌, Option, None, Some}
use Rattle.cv_syntax_trees.specs.declared.head.Head.TheVariants.{AlternativePart}
use Rattle.cv_syntax_trees.specs.Tree.{Tree, Empty, Node}
use Rattle.cv_meaning.specs.Correspondences.{Atom}
use Rattle.cv_scene.specs.Sights.{from_one}
use Rattle.cv_query_certificates.specs.EventNodes.{place_in}

-- what stands behind the witnesses is a list: perhaps first the part `alt`, with the number of an alternative, and then routes

abbrev pub number_of : (item : Tree) → Option ℕ
number_of (Node AlternativePart n e) = Some (place_in n)
number_of item = None

abbrev pub number_in : (choice : Tree) → Option ℕ
number_in Empty = None
number_in (Node h item more) = number_of item

abbrev pub routes_behind : (number : Option ℕ) → (choice more : Tree) → Tree
routes_behind None choice more = choice
routes_behind (Some n) choice more = more

abbrev pub routes_of : (choice : Tree) → Tree
routes_of Empty = Empty
routes_of (Node h item more) = routes_behind (number_of item) (Node h item more) more

-- The alternative that is chosen: of several the one with the number that is named, from 1; where there is one, none is named.

abbrev pub chosen_by : (alternatives : List (List (ℕ × Atom))) → (number : Option ℕ) → Option (List (ℕ × Atom))
chosen_by (atoms ∷ []) None = Some atoms
chosen_by (atoms ∷ []) (Some n) = None
chosen_by alternatives None = None
chosen_by alternatives (Some n) = from_one alternatives n

abbrev pub chosen : (alternatives : List (List (ℕ × Atom))) → (choice : Tree) → Option (List (ℕ × Atom))
chosen alternatives choice = chosen_by alternatives (number_in choice)

-- its atoms with their numbers, where there is one
abbrev pub atoms_of_chosen : Option (List (ℕ × Atom)) → List (ℕ × Atom)
atoms_of_chosen None = []
atoms_of_chosen (Some atoms) = atoms

abbrev pub chosen_atoms : (alternatives : List (List (ℕ × Atom))) → (choice : Tree) → List (ℕ × Atom)
chosen_atoms alternatives choice = atoms_of_chosen (chosen alternatives choice)
