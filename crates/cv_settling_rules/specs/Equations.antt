-- What an equation makes of a term that is its left side: the equations of truth values, and the declared ones whose variables all stand
-- on the left. This profile's own.
use Rattle.std.specs.Prelude.{ℕ, Bool, true, false, ◌&&◌, if◌then◌else◌, List, [], ◌∷◌, ◌++◌, map, flat_map, Option, Some, None, option_and_then, option_map}
use Rattle.cv_syntax_trees.specs.declared.head.Head.TheVariants.{And, Binder, Eq, Not, Or}
use Rattle.cv_syntax_trees.specs.declared.sites.sort.Sort.TheVariants.{OfType}
use Rattle.cv_syntax_trees.specs.Tree.{Tree, Node, bound_names, chain, first, same_tree, second}
use Rattle.cv_scope_rules.specs.typing.Parts.{nothing_above}
use Rattle.cv_scope_rules.specs.typing.Signature.{sort_of}
use Rattle.cv_scene.specs.Instances.{standing_for}
use Rattle.cv_scene.specs.Reasons.{equations_in}
use Rattle.cv_scene.specs.Scenes.{Scene}
use Rattle.cv_scene.specs.Terms.{is_sort, signature_in}
use Rattle.cv_scene.specs.lines.Given.{with_given}
use Rattle.cv_scene.specs.lines.Truths.{no, yes}
use Rattle.cv_settling_rules.specs.Candidates.{Candidate, Rewrite, when}
use Rattle.cv_settling_rules.specs.Spots.{Spot, is_term, spots}

abbrev pub is_of_type : Scene → (type : ℕ) → (term : Tree) → Bool
is_of_type s T m = is_sort (sort_of (signature_in s) nothing_above m) (OfType T)

-- Equations of truth values.

-- (A = true) = A; (M = M) = true; (M = N) = (N = M)
abbrev pub of_equality : (m n : Tree) → List Tree
of_equality m n = when (same_tree n yes) m ++ (when (same_tree n m) yes ++ Node Eq n m ∷ [])

-- (A && true) = A; (true && A) = A; (A && false) = false; (false && A) = false
abbrev pub of_and : (m n : Tree) → List Tree
of_and m n = when (same_tree n yes) m ++ (when (same_tree m yes) n ++ (when (same_tree n no) no ++ when (same_tree m no) no))

-- (A || true) = true; (true || A) = true; (A || false) = A; (false || A) = A
abbrev pub of_or : (m n : Tree) → List Tree
of_or m n = when (same_tree n yes) yes ++ (when (same_tree m yes) yes ++ (when (same_tree n no) m ++ when (same_tree m no) n))

-- not(not(A)) = A
abbrev pub of_double : Tree → List Tree
of_double (Node Not m e) = m ∷ []
of_double m = []

-- not(A) = (A = false); not(true) = false; not(false) = true; not(not(A)) = A
abbrev pub of_not : (m : Tree) → List Tree
of_not m = Node Eq m no ∷ (when (same_tree m yes) no ++ (when (same_tree m no) yes ++ of_double m))

abbrev pub of_sides : Tree → List Tree
of_sides (Node Eq m n) = of_equality m n
of_sides (Node And m n) = of_and m n
of_sides (Node Or m n) = of_or m n
of_sides (Node Not m e) = of_not m
of_sides t = []

-- A = (A = true); and those above
abbrev pub by_truths : Scene → Tree → List Tree
by_truths s t = when (is_of_type s 0 t) (Node Eq t yes) ++ of_sides t

-- Declared equations.

-- what stands for the variables, where each stands on the left
abbrev pub terms_for : (names : List ℕ) → (left term : Tree) → Option (List Tree)
terms_for [] l t = Some []
terms_for (x ∷ xs) l t = option_and_then (λ m. option_map (λ ms. m ∷ ms) (terms_for xs l t)) (standing_for x l t)

abbrev pub are_of_types : Scene → (binders : Tree) → (terms : List Tree) → Bool
are_of_types s (Node (Binder x T) a bs) (m ∷ ms) = is_of_type s T m && are_of_types s bs ms
are_of_types s bs [] = true
are_of_types s bs ms = false

-- the term is the left side with these terms for the variables, each of its type
abbrev pub is_left_side : Scene → (binders left term : Tree) → (terms : List Tree) → Bool
is_left_side s bs l t ms = same_tree (with_given (bound_names bs) (chain ms) l) t && are_of_types s bs ms

abbrev pub right_side : Scene → (binders left right term : Tree) → Option (List Tree) → List Tree
right_side s bs l r t None = []
right_side s bs l r t (Some ms) = when (is_left_side s bs l t ms) (with_given (bound_names bs) (chain ms) r)

abbrev pub by_sides : Scene → (binders body term : Tree) → List Tree
by_sides s bs (Node Eq l r) t = right_side s bs l r t (terms_for (bound_names bs) l t)
by_sides s bs body t = []

-- in the order of the file
abbrev pub by_equations : Scene → Tree → List Tree
by_equations s t = flat_map (λ e. by_sides s (first e) (second e) t) (equations_in s.declarations)

-- what a term may become
abbrev pub rights_of : Scene → Tree → List Tree
rights_of s t = by_truths s t ++ by_equations s t

abbrev pub rewritings_at : Scene → Spot → List Candidate
rewritings_at s v = if is_term v.phrase then map (Rewrite v.place) (rights_of s v.tree) else []

abbrev pub rewritings : Scene → List Candidate
rewritings s = flat_map (rewritings_at s) (spots s.game)
