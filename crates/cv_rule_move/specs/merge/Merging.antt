-- The bodies of an `if` and of a `find`, and the places of a construct besides its first body. Blanchet, TDSC 2008, section 3.
use Rattle.std.specs.Prelude.{ℕ, ◌+◌, Bool, ◌||◌, if◌then◌else◌, List, [], ◌∷◌, ◌++◌, Option, Some, None}
use Rattle.cv_syntax_trees.specs.declared.head.Head.TheVariants.{Branch, Cons, Find, If}
use Rattle.cv_syntax_trees.specs.Tree.{Tree, Empty, Node, first, first_place, same_tree, second, second_place, size}
use Rattle.cv_costs.specs.names.Naming.{is_between}

-- a body of a construct, with its place
pub record Body : Type 0 where
  pub place : ℕ
  pub process : Tree

-- that of a branch that stands at a place
abbrev pub branch_body : (place : ℕ) → (binders rest : Tree) → Body
branch_body p us rest =
    record { place = second_place p Branch us + (size (first rest) + size (first (second rest))); process = second (second rest) }

-- those of branches
abbrev pub branch_bodies : (place : ℕ) → (branches : Tree) → List Body
branch_bodies p (Node Cons (Node Branch us rest) more) = branch_body p us rest ∷ branch_bodies (second_place p Cons (Node Branch us rest)) more
branch_bodies p branches = []

-- those of an `if`, in a list that stands at a place
abbrev pub if_bodies : (place : ℕ) → Tree → List Body
if_bodies p rest =
    (record { place = p; process = first rest }) ∷ (record { place = p + size (first rest); process = first (second rest) }) ∷ []

-- the bodies of a construct that stands at a place, in preorder: of a `find` those of its branches and the `else`
abbrev pub bodies : (place : ℕ) → Tree → List Body
bodies p (Node If condition rest) = if_bodies (second_place p If condition) rest
bodies p (Node (Find l) branches otherwise) =
    branch_bodies (first_place p (Find l)) branches ++ (record { place = second_place p (Find l) branches; process = otherwise }) ∷ []
bodies p t = []

-- the place of the first one that is another process
abbrev pub first_other : (process : Tree) → List Body → Option ℕ
first_other b [] = None
first_other b (c ∷ more) = if same_tree b c.process then first_other b more else Some c.place

-- the places of a construct that stands at a place, but for those of its first body. The bodies are equal where this is asked, so
-- what a later one names the first names before; all else are the construct's own binders, `defined` lists and conditions.
abbrev pub is_beside : (place : ℕ) → (construct : Tree) → Body → ℕ → Bool
is_beside p t b q = is_between p b.place q || is_between (b.place + size b.process) (p + size t) q
