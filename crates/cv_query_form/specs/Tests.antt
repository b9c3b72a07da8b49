-- The rules of queries as tests.
use Rattle.std.specs.Prelude.{ℕ, suc, ◌+◌, ◌*◌, nat_le, Bool, true, false, ◌&&◌, ◌||◌, not, ◌==◌, if◌then◌else◌, List, [], ◌∷◌, Option, Some, None, option_map}
use Rattle.cv_syntax_trees.specs.declared.head.Head.TheVariants.{Leaf, Cons, Query, Occurs, OccursOnce, Secret, SecretOnce, SomeOf}
use Rattle.cv_syntax_trees.specs.Tree.{Tree, Empty, Node}
use Rattle.cv_syntax.specs.NameSets.{is_one_of}
use Rattle.cv_meaning.specs.Binders.{bound_names}
use Rattle.cv_meaning.specs.Correspondences.{is_once}
use Rattle.cv_syntax_trees.specs.declared.sites.sort.Sort.{Sort}
use Rattle.cv_syntax_trees.specs.declared.sites.sort.Sort.TheVariants.{OfType}
use Rattle.cv_syntax_trees.specs.sites.Sites.{Variable, first_site}

abbrev pub without : (ℕ → Bool) → ℕ → ℕ → Bool
without free x y = if x == y then false else free y

-- each term is a variable that is free, and no longer is behind it
unfoldable pub are_distinct : (ℕ → Bool) → Tree → Bool
are_distinct free Empty = true
are_distinct free (Node Cons (Node (Leaf x) Empty Empty) more) = free x && are_distinct (without free x) more
are_distinct free _ = false

unfoldable pub is_left_event : (ℕ → Bool) → Tree → Bool
is_left_event free (Node (Occurs e) terms Empty) = are_distinct free terms
is_left_event free (Node (OccursOnce e) terms Empty) = are_distinct free terms
is_left_event free _ = false

unfoldable pub some_is_marked : Tree → Bool
some_is_marked Empty = false
some_is_marked (Node Cons a b) = some_is_marked a || some_is_marked b
some_is_marked (Node SomeOf a b) = some_is_marked a || some_is_marked b
some_is_marked atom = is_once atom

abbrev pub are_marked_alike : Tree → Tree → Bool
are_marked_alike left right = if is_once left then some_is_marked right else not (some_is_marked right)

-- how many alternatives a right side has
unfoldable pub count_of : Tree → ℕ
count_of Empty = 1
count_of (Node Cons a b) = count_of a * count_of b
count_of (Node SomeOf a b) = count_of a + count_of b
count_of atom = 1

abbrev pub has_few_alternatives : Tree → Bool
has_few_alternatives right = nat_le (count_of right) 64

-- the sides of a correspondence go together
abbrev pub sides_pass : Tree → Tree → Bool
sides_pass left right = are_marked_alike left right && has_few_alternatives right

abbrev pub is_of_type : Option Sort → Bool
is_of_type (Some (OfType T)) = true
is_of_type s = false

abbrev pub has_values : Tree → ℕ → Bool
has_values game x = is_of_type (option_map (λ (v : Variable). v.sort) (first_site x [] game))

-- a query passes, where these names have values
unfoldable pub passes : (ℕ → Bool) → Tree → Bool
passes valued (Node Query bs (Node Cons left right)) = is_left_event (is_one_of (bound_names bs)) left && sides_pass left right
passes valued (Node (Secret x) Empty Empty) = valued x
passes valued (Node (SecretOnce x) Empty Empty) = valued x
passes valued _ = false

abbrev pub may_be_asked : Tree → Tree → Bool
may_be_asked game query = passes (has_values game) query

-- the number, from 1, of the first query that may not be asked
unfoldable pub first_refused : Tree → List Tree → Option ℕ
first_refused game [] = None
first_refused game (q ∷ qs) = if may_be_asked game q then option_map suc (first_refused game qs) else Some 1
