-- Sites: where a variable is defined, a channel is read, and a `find` has its label.
use Rattle.std.specs.Prelude.{◌≤◌, ◌<◌, ℕ, List, [], ◌∷◌, ◌++◌, map, ◌⊎◌}
use Rattle.cv_syntax_trees.specs.declared.head.Head.{Head}
use Rattle.cv_syntax_trees.specs.declared.head.Head.TheVariants.{In, New, Let, Find, Branch, Binder, Key, Call}
use Rattle.cv_syntax_trees.specs.Tree.{Tree, Empty, Node, second, first_place, second_place}
use Rattle.cv_meaning.specs.Binders.{bound_names}
use Rattle.cv_scope_rules.specs.Context.{replications_below}

pub data SiteName : Type 0 where
  Variable Channel Label : (name : ℕ) → SiteName

-- a site, with the replications above it, the types that an input binds, and its place
pub record Site : Type 0 where
  pub name : SiteName
  pub replications : List (ℕ × ℕ)
  pub types : List ℕ
  pub place : ℕ

abbrev pub bound_types : Tree → List ℕ
bound_types (Node (Binder x T) a b) = T ∷ bound_types b
bound_types _ = []

abbrev pub site_of : List (ℕ × ℕ) → ℕ → SiteName → Site
site_of rs p name = record { name = name; replications = rs; types = []; place = p }

abbrev pub variable_sites : List (ℕ × ℕ) → ℕ → Tree → List Site
variable_sites rs p binders = map (λ x. site_of rs p (Variable x)) (bound_names binders)

-- the sites of variables and labels that a node itself has, below replications and at a place
abbrev pub named_here : List (ℕ × ℕ) → ℕ → Head → Tree → List Site
named_here rs p (New x T) a = site_of rs p (Variable x) ∷ []
named_here rs p (Let x T) a = site_of rs p (Variable x) ∷ []
named_here rs p (Key x) a = site_of rs p (Variable x) ∷ []
named_here rs p (Call x l) a = site_of rs p (Variable x) ∷ []
named_here rs p (In c) a = variable_sites rs p (second a)
named_here rs p Branch a = variable_sites rs p a
named_here rs p (Find l) a = site_of rs p (Label l) ∷ []
named_here rs p h a = []

-- the site of a channel that an input is
abbrev pub channel_here : List (ℕ × ℕ) → ℕ → Head → Tree → List Site
channel_here rs p (In c) a = record { name = Channel c; replications = rs; types = bound_types (second a); place = p } ∷ []
channel_here rs p h a = []

abbrev pub sites_here : List (ℕ × ℕ) → ℕ → Head → Tree → List Site
sites_here rs p h a = named_here rs p h a ++ channel_here rs p h a

-- the sites of a tree, in preorder
unfoldable pub sites_from : List (ℕ × ℕ) → ℕ → Tree → List Site
sites_from rs p Empty = []
sites_from rs p (Node h a b) =
    sites_here rs p h a ++ (sites_from rs (first_place p h) a ++ sites_from (replications_below h rs) (second_place p h a) b)

-- a place in one of these ranges of places
abbrev pub InOneOf : List (ℕ × ℕ) → ℕ → Type 0
InOneOf [] p = ⊥
InOneOf (r ∷ rs) p = (r.0 ≤ p) × (p < r.1) ⊎ InOneOf rs p
