-- The sites of a context: where it calls the functions of a group, and at which tuples of its indices.
-- This profile's own.
use Rattle.std.specs.Prelude.{ℕ, suc, max, Bool, true, false, ◌&&◌, ◌==◌, nat_lt, if◌then◌else◌, List, [], ◌∷◌, ◌++◌, filter, length, Option, Some, None}
use Rattle.cv_syntax_trees.specs.declared.head.Head.{Head}
use Rattle.cv_syntax_trees.specs.declared.head.Head.TheVariants.{Call}
use Rattle.cv_syntax_trees.specs.Tree.{Tree, Empty, Node}
use Rattle.cv_meaning.specs.Interpretation.{Setting}
use Rattle.cv_meaning.specs.Cells.{bounds_under}
use Rattle.cv_syntax_trees.specs.lists.Options.{first_of}

pub record Site : Type 0 where
  pub number : ℕ
  pub function : ℕ  -- the position in the group of the function that is called
  pub bounds : List ℕ  -- the values of the parameters of the replications above the call

abbrev pub is_call : ℕ → Head → Bool
is_call l (Call x m) = m == l
is_call l h = false

-- the bounds above the first call with a site's number; first those above the tree
unfoldable pub bounds_above : Setting → List ℕ → ℕ → Tree → Option (List ℕ)
bounds_above g bounds l Empty = None
bounds_above g bounds l (Node h a b) =
    if is_call l h then Some bounds else first_of (bounds_above g (bounds_under g bounds h) l a) (bounds_above g (bounds_under g bounds h) l b)

abbrev pub site_with : ℕ → ℕ → Option (List ℕ) → List Site
site_with l f None = []
site_with l f (Some bounds) = record { number = l; function = f; bounds = bounds } ∷ []

-- from a number on, where the functions of the sites are these; a number without a call is no site
unfoldable pub sites_from : Setting → Tree → ℕ → List ℕ → List Site
sites_from g context l [] = []
sites_from g context l (f ∷ fs) = site_with l f (bounds_above g [] l context) ++ sites_from g context (suc l) fs

-- the sites of a context by number, where the k-th of these functions is that of site k
abbrev pub sites_of : Setting → Tree → List ℕ → List Site
sites_of g context functions = sites_from g context 0 functions

-- the first site with a number
abbrev pub site_numbered : List Site → ℕ → Option Site
site_numbered [] l = None
site_numbered (s ∷ ss) l = if s.number == l then Some s else site_numbered ss l

-- the sites that can be called at a tuple

abbrev pub is_below : List ℕ → List ℕ → Bool
is_below [] [] = true
is_below (v ∷ vs) (n ∷ ns) = nat_lt v n && is_below vs ns
is_below _ _ = false

abbrev pub sites_at : List Site → List ℕ → List Site
sites_at ss u = filter (λ (s : Site). is_below u s.bounds) ss

-- the most replications above a site, and the greatest bound

abbrev pub most_bounds : List Site → ℕ
most_bounds [] = 0
most_bounds (s ∷ ss) = max (length s.bounds) (most_bounds ss)

abbrev pub greatest : List ℕ → ℕ
greatest [] = 0
greatest (n ∷ ns) = max n (greatest ns)

abbrev pub greatest_bound : List Site → ℕ
greatest_bound [] = 0
greatest_bound (s ∷ ss) = max (greatest s.bounds) (greatest_bound ss)
