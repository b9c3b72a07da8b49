-- How often a run of a context chooses a key, and calls each function of its equivalence: at most as often as the shape of the context says.
-- Blanchet and Pointcheval, CRYPTO 2006, bound those who tell the sides of an equivalence apart by these numbers.
use Rattle.std.specs.Prelude.{◌≡◌, ℕ, ◌≤◌, Bool, true, false, ◌==◌, List, filter, length, slice_get, Option, Some, None}
use Rattle.std.specs.List.{sum_by}
use Rattle.cv_syntax_trees.specs.declared.head.Head.{Head}
use Rattle.cv_syntax_trees.specs.declared.head.Head.TheVariants.{Call, Key}
use Rattle.cv_syntax_trees.specs.Tree.{Tree, Empty, Node}
use Rattle.cv_meaning.specs.Interpretation.{Interpretation}
use Rattle.cv_meaning.specs.Serving.{Visit}
use Rattle.cv_context.specs.products.Shapes.{Shape}
use Rattle.cv_rule_fresh.specs.collisions.Chances.{copies}

-- the construct chooses a key
abbrev pub chooses_key : Head → Bool
chooses_key (Key x) = true
chooses_key h = false

-- it calls the function of a position, where the site with its number has that position
abbrev pub is_position : ℕ → Option ℕ → Bool
is_position k None = false
is_position k (Some j) = j == k

abbrev pub calls_function : (functions : List ℕ) → (position : ℕ) → Head → Bool
calls_function fs k (Call x l) = is_position k (slice_get fs l)
calls_function fs k h = false

-- how many visits are of constructs of a kind

abbrev pub has_kind : (Head → Bool) → Tree → Bool
has_kind p Empty = false
has_kind p (Node h a b) = p h

abbrev pub visits_of : (Head → Bool) → List Visit → List Visit
visits_of p vs = filter (λ (v : Visit). has_kind p v.tree) vs

-- The visits choose at most as many keys, and call each function at most as often, as the products of the shape are worth: a product is the
-- number of copies below replications with its parameters, and a function is called at each of its sites.
pub record IsWithinShape (i : Interpretation) (functions : List ℕ) (h : Shape) (vs : List Visit) : Type 0 where
  pub keys : length (visits_of chooses_key vs) ≤ copies i h.keys
  pub calls :
      (k : ℕ) (called : ℕ × List (List ℕ)) → slice_get h.calls k ≡ Some called
      → length (visits_of (calls_function functions k) vs) ≤ sum_by (copies i) called.1
