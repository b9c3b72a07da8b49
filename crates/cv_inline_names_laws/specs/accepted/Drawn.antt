-- What is drawn for the sites of a right side, as the text of its bodies asks for it. This profile's own.
use Rattle.std.specs.Prelude.{◌≡◌, ℕ, suc, Bool, true, false, ◌==◌, List, [], ◌∷◌, ◌++◌, flat_map}
use Rattle.std.specs.List.{AllByRecursion}
use Rattle.cv_syntax_trees.specs.declared.head.Head.TheVariants.{Branch, Cons, Binder, Find}
use Rattle.cv_syntax_trees.specs.Tree.{Tree, Empty, Node, first_place, second_place}
use Rattle.cv_group_rules.specs.Rules.{names_of}
use Rattle.cv_meaning.specs.contexts.Groups.{Function}
use Rattle.cv_meaning.specs.contexts.Inlined.{Caller}
use Rattle.cv_inline.specs.bodies.Inlining.{Inlining}
use Rattle.cv_inline.specs.Draws.{finds_in}

-- a find at a place, and one of its branches, as it goes over the calls of a site
pub record Opening : Type 0 where
  pub place : ℕ
  pub site : ℕ
  pub branch : ℕ

abbrev pub opening_if : Bool → Opening → List Opening
opening_if true o = o ∷ []
opening_if false o = []

-- of the branches of the find at q, from number k on
unfoldable pub openings_at : (q : ℕ) → Caller → (k : ℕ) → Tree → List Opening
openings_at q s k (Node Cons (Node Branch (Node (Binder u n) x y) rest) more) =
    opening_if (s.bound == n) (record { place = q; site = s.number; branch = k }) ++ openings_at q s (suc k) more
openings_at q s k t = []

-- of the finds of a body at a place
unfoldable pub openings_in : List Caller → (place : ℕ) → Tree → List Opening
openings_in ss q Empty = []
openings_in ss q (Node (Find l) a b) =
    flat_map (λ s. openings_at q s 0 a) ss ++ (openings_in ss (first_place q (Find l)) a ++ openings_in ss (second_place q (Find l) a) b)
openings_in ss q (Node h a b) = openings_in ss (first_place q h) a ++ openings_in ss (second_place q h a) b

-- For the sites of these callers all names are drawn that functions with their bounds bind; for a call of the function also the
-- finds of its body are, and their branches.
pub record IsDrawnFor (constants : ℕ → Bool) (functions : Tree) (f : Function) (p : Inlining) (callers : List Caller) : Type 0 where
  pub own : (x : ℕ) → names_of functions f.bound x ≡ true → p.has p.c.number x ≡ true
  pub sites : AllByRecursion (λ (s : Caller). (x : ℕ) → names_of functions s.bound x ≡ true → p.has s.number x ≡ true) callers
  pub finds : AllByRecursion (λ q. p.finds q ≡ true) (finds_in 0 f.body)
  pub opens : AllByRecursion (λ (o : Opening). p.opens o.place o.site o.branch ≡ true) (openings_in callers 0 f.body)
  pub constant : (x : ℕ) → constants x ≡ true → p.constant x ≡ true
