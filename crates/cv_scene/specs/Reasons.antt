-- The reasons of a derivation: when a line is right, one clause for each. This profile's own.
use Rattle.std.specs.Prelude.{ℕ, Bool, true, false, ◌&&◌, ◌==◌, if◌then◌else◌, List, [], ◌∷◌, Option, Some, None}
use Rattle.std.specs.List.{list_any}
use Rattle.cv_syntax_trees.specs.declared.class.Class.TheVariants.{Fun}
use Rattle.cv_syntax_trees.specs.declared.head.Head.{Head}
use Rattle.cv_syntax_trees.specs.declared.head.Head.TheVariants as head
use Rattle.cv_syntax_trees.specs.declared.head.Head.TheVariants.{Eq, And, Or, Not, Leaf, Read, Apply, Binder}
use Rattle.cv_syntax_trees.specs.Declarations.{Declaration, Named, Equation}
use Rattle.cv_syntax_trees.specs.Head.{same_head}
use Rattle.cv_syntax_trees.specs.Tree.{Tree, Empty, Node, bound_names, first, second, same_tree}
use Rattle.cv_syntax_trees.specs.declared.sites.sort.Sort.TheVariants.{OfType}
use Rattle.cv_scope_rules.specs.typing.Signature.{declaration_of}
use Rattle.cv_scope_rules.specs.Context.{items}
use Rattle.cv_scope_rules.specs.Rules.{is_index}
use Rattle.cv_scene.specs.lines.Given.{with_given}
use Rattle.cv_scene.specs.lines.Inferences.{Visible, are_equal_by, cited_cell, equations_of, is_both, is_left, is_refuted, is_reflexive, is_replaced_by, is_right_side, is_symmetric, is_transitive, number_of, cited_term}
use Rattle.cv_scene.specs.lines.Lines.{Statement, Holds, IsDefined}
use Rattle.cv_scene.specs.Late.{is_late_cell}
use Rattle.cv_scene.specs.Sights.{Pair, Sight, from_one, is_term_of, is_typed, site_cells, site_facts}
use Rattle.cv_scene.specs.lines.Truths.{is_truth, no}

-- there is a tree, and this is it
abbrev pub is_tree : Option Tree → Tree → Bool
is_tree None t = false
is_tree (Some u) t = same_tree t u

-- an instance of an equation, with a term of its type for each variable

abbrev pub are_of_types : Sight → (binders terms : Tree) → Bool
are_of_types s (Node (Binder x T) a bs) (Node h m ms) = is_term_of s (OfType T) m && are_of_types s bs ms
are_of_types s Empty Empty = true
are_of_types s bs ms = false

abbrev pub equations_in : List Declaration → List Tree
equations_in [] = []
equations_in (Equation t ∷ ds) = t ∷ equations_in ds
equations_in (d ∷ ds) = equations_in ds

abbrev pub is_instance : Sight → Option Tree → (terms t : Tree) → Bool
is_instance s None ms t = false
is_instance s (Some e) ms t = are_of_types s (first e) ms && same_tree t (with_given (bound_names (first e)) ms (second e))

-- the arguments of a function, a variable, `=`, `&&`, `||` and `not`
abbrev pub arguments : Sight → Head → (a b : Tree) → Option (List Tree)
arguments s (Apply f) a b = Some (items a)
arguments s (Read x) a b = Some (items a)
arguments s (Leaf x) a b = if is_index s.replications x then None else Some []
arguments s Eq a b = Some (a ∷ b ∷ [])
arguments s And a b = Some (a ∷ b ∷ [])
arguments s Or a b = Some (a ∷ b ∷ [])
arguments s Not a b = Some (a ∷ [])
arguments s h a b = None

abbrev pub are_congruent_by : Visible → (lines : List Tree) → (ms ns : Option (List Tree)) → Bool
are_congruent_by v ls (Some ms) (Some ns) = are_equal_by v ls ms ns
are_congruent_by v ls ms ns = false

abbrev pub is_congruent : Sight → Visible → (lines t : Tree) → Bool
is_congruent s v ls (Node Eq (Node h a b) (Node k c d)) = same_head h k && are_congruent_by v (items ls) (arguments s h a b) (arguments s k c d)
is_congruent s v ls t = false

-- a function that is `[data]` has one value at equal arguments alone

abbrev pub is_data_by : Option Declaration → Bool
is_data_by (Some (Named f (Fun data_like) args r)) = data_like
is_data_by d = false

abbrev pub is_injective : Sight → Tree → Bool
is_injective s (Node Eq (Node Eq (Node (Apply f) a b) (Node (Apply g) c d)) e) =
    f == g && (is_data_by (declaration_of s.scene.declarations f) && same_tree e (equations_of (items a) (items c)))
is_injective s t = false

-- What a second copy adds: its facts and cells, the given equations; and of two cells of an array whose values are taken to differ, both
-- of them defined: where their values are equal, so are their indices.

abbrev pub is_fact_of : Option Pair → ℕ → Tree → Bool
is_fact_of None k t = false
is_fact_of (Some o) k t = is_tree (from_one o.facts k) t

abbrev pub is_cell_of : Option Pair → Tree → Bool
is_cell_of None c = false
is_cell_of (Some o) c = list_any (same_tree c) o.cells

abbrev pub is_given_of : Option Pair → ℕ → Tree → Bool
is_given_of None k t = false
is_given_of (Some o) k t = is_tree (from_one o.given k) t

abbrev pub are_of_one : List ℕ → (cell other : Tree) → Bool
are_of_one xs (Node (Read x) a b) (Node (Read y) c d) = x == y && list_any (λ z. z == x) xs
are_of_one xs c d = false

abbrev pub are_equal_in : Option Tree → Option Tree → Tree → Bool
are_equal_in (Some m) (Some n) t = same_tree t (Node Eq m n)
are_equal_in m n t = false

abbrev pub is_distinct_of : Option Pair → (line cell other : Tree) → ℕ → Tree → Bool
is_distinct_of None l c d k t = false
is_distinct_of (Some o) l c d k t =
    are_of_one o.distinct c d
    && (same_tree l (Node Eq c d) && are_equal_in (from_one (items (first c)) k) (from_one (items (first d)) k) t)

-- The reasons for a term and for a cell. What is assumed is the condition of the block around, or its negation.

abbrev pub is_reason : Sight → (assumed : Tree) → Visible → (term reason : Tree) → Bool
is_reason s g v t (Node head.ByFact k b) = is_tree (from_one s.facts (number_of k)) t
is_reason s g v t (Node head.BySite l k) = is_tree (from_one (site_facts s (cited_cell v l)) (number_of k)) t
is_reason s g v t (Node head.ByEquation k ms) = is_instance s (from_one (equations_in s.scene.declarations) (number_of k)) ms t
is_reason s g v t (Node head.ByRefl a b) = is_reflexive t
is_reason s g v t (Node head.BySym l b) = is_symmetric (cited_term v l) t
is_reason s g v t (Node head.ByTrans l k) = is_transitive (cited_term v l) (cited_term v k) t
is_reason s g v t (Node head.ByCong ls b) = is_congruent s v ls t
is_reason s g v t (Node head.ByMp l k) = is_replaced_by (cited_term v l) (cited_term v k) t
is_reason s g v t (Node head.ByAnd l k) = is_both (cited_term v l) (cited_term v k) t
is_reason s g v t (Node head.ByLeft l b) = is_left (cited_term v l) t
is_reason s g v t (Node head.ByRight l b) = is_right_side (cited_term v l) t
is_reason s g v t (Node head.ByContra l k) = is_refuted (cited_term v l) (cited_term v k) t
is_reason s g v t (Node head.ByLate l ls) = same_tree t no && is_late_cell s v (cited_cell v l) ls
is_reason s g v t (Node head.ByExfalso l b) = same_tree (cited_term v l) no
is_reason s g v t (Node head.ByData a b) = is_injective s t
is_reason s g v t (Node head.ByGiven a b) = same_tree t g
is_reason s g v t (Node head.ByAgain l b) = same_tree t (cited_term v l)
is_reason s g v t (Node head.ByBool a b) = is_truth t
is_reason s g v t (Node head.ByOtherFact k b) = is_fact_of s.pair (number_of k) t
is_reason s g v t (Node head.BySame k b) = is_given_of s.pair (number_of k) t
is_reason s g v t (Node head.ByDistinct l ds) =
    is_distinct_of s.pair (cited_term v l) (cited_cell v (first ds)) (cited_cell v (first (second ds))) (number_of (second (second ds))) t
is_reason s g v t r = false

abbrev pub is_reason_of_cell : Sight → Visible → (cell reason : Tree) → Bool
is_reason_of_cell s v c (Node head.ByHere a b) = list_any (same_tree c) s.cells
is_reason_of_cell s v c (Node head.ByOf l b) = list_any (same_tree c) (site_cells s (cited_cell v l))
is_reason_of_cell s v c (Node head.ByOtherHere a b) = is_cell_of s.pair c
is_reason_of_cell s v c (Node head.ByExfalso l b) = same_tree (cited_term v l) no
is_reason_of_cell s v c (Node head.ByAgain l b) = same_tree c (cited_cell v l)
is_reason_of_cell s v c r = false

abbrev pub has_reason : Sight → (assumed : Tree) → Visible → Statement → (reason : Tree) → Bool
has_reason s g v (Holds t) r = is_reason s g v t r
has_reason s g v (IsDefined c) r = is_reason_of_cell s v c r

-- every term is typed
abbrev pub is_right : Sight → (assumed : Tree) → Visible → Statement → (reason : Tree) → Bool
is_right s g v t r = is_typed s t && has_reason s g v t r
