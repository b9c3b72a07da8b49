-- Where the variables of a tree are defined: each definition with the place of its node, in preorder. This profile's own.
use Rattle.std.specs.Prelude.{ℕ, Bool, ◌&&◌, ◌==◌, nat_lt, not, List, [], ◌∷◌, ◌++◌, map}
use Rattle.std.specs.List.{list_any}
use Rattle.std.specs.Ordering.{nat_cmp, ordering_then}
use Rattle.std.specs.declared.cmp.Ordering.{Ordering}
use Rattle.cv_syntax_trees.specs.declared.head.Head.{Head}
use Rattle.cv_syntax_trees.specs.declared.head.Head.TheVariants.{Branch, Call, In, Key, Let, New}
use Rattle.cv_syntax_trees.specs.Tree.{Tree, Empty, Node, bound_names, first_place, second, second_place}
use Rattle.cv_settling_lateness.specs.declared.definitions.Definition.{Definition}

abbrev pub definition : (place x : ℕ) → Definition
definition p x = record { name = x; place = p }

-- those of a node that stands at a place, with its first child
abbrev pub defined_at : (place : ℕ) → Head → Tree → List Definition
defined_at p (New x T) a = definition p x ∷ []
defined_at p (Let x T) a = definition p x ∷ []
defined_at p (Key x) a = definition p x ∷ []
defined_at p (Call x l) a = definition p x ∷ []
defined_at p (In c) a = map (definition p) (bound_names (second a))
defined_at p Branch a = map (definition p) (bound_names a)
defined_at p h a = []

-- those of a tree that stands at a place
unfoldable pub definitions : (place : ℕ) → Tree → List Definition
definitions p Empty = []
definitions p (Node h a b) = defined_at p h a ++ (definitions (first_place p h) a ++ definitions (second_place p h a) b)

-- by the variable, and then by the place
abbrev pub by_name_and_place : Definition → Definition → Ordering
by_name_and_place d e = ordering_then (nat_cmp d.name e.name) (nat_cmp d.place e.place)

-- a definition of the variable at a place from low up to high
abbrev pub is_within : (x low high : ℕ) → Definition → Bool
is_within x low high d = (x == d.name) && (not (nat_lt d.place low) && nat_lt d.place high)

abbrev pub has_within : (x low high : ℕ) → List Definition → Bool
has_within x low high ds = list_any (is_within x low high) ds
