-- A `new` or a `let` moves below the construct behind it, into each of its bodies. Blanchet, TDSC 2008, section 3.
use Rattle.std.specs.Prelude.{ℕ, ◌+◌, Bool, true, false, if◌then◌else◌, Option, Some, None}
use Rattle.cv_syntax_trees.specs.declared.head.Head.TheVariants.{Event, New, Let, If, Find, Branch, Cons}
use Rattle.cv_syntax_trees.specs.Tree.{Tree, Empty, Node, first, second, first_place, second_place, size}
use Rattle.cv_syntax_trees.specs.sites.Sites.{first_of}
use Rattle.cv_meaning.specs.Still.{defines}
use Rattle.cv_scope_rules.specs.Made.{is_bound}
use Rattle.cv_scene.specs.Scenes.{first_reading}
use Rattle.cv_steps.specs.Changes.{only}

-- the variable of a `new` or a `let`
abbrev pub defined : Tree → Option ℕ
defined (Node (New x T) a b) = Some x
defined (Node (Let x T) a b) = Some x
defined t = None

-- the place of what stands behind it, where it stands at a place
abbrev pub behind : (place : ℕ) → Tree → ℕ
behind p t = p + 1 + size (first t)

-- a construct that a definition may move below
abbrev pub has_bodies : Tree → Bool
has_bodies (Node (New y T) a b) = true
has_bodies (Node (Let y T) a b) = true
has_bodies (Node (Event e) a b) = true
has_bodies (Node If a b) = true
has_bodies (Node (Find l) a b) = true
has_bodies t = false

-- the first place where branches that stand at a place name the variable before their bodies: one binds it, or reads it in its list
-- or in its condition
abbrev pub first_naming_branch : (x place : ℕ) → (branches : Tree) → Option ℕ
first_naming_branch x p (Node Cons (Node Branch us rest) more) =
    if is_bound us x then Some p
    else first_of (first_reading x (second_place p Branch us) (first rest))
    (first_of (first_reading x (second_place p Branch us + size (first rest)) (first (second rest)))
    (first_naming_branch x (second_place p Cons (Node Branch us rest)) more))
first_naming_branch x p branches = None

-- the first place where a construct that stands at a place names the variable outside of its bodies
abbrev pub first_naming : (x place : ℕ) → Tree → Option ℕ
first_naming x p Empty = None
first_naming x p (Node (Find l) branches otherwise) = first_naming_branch x (first_place p (Find l)) branches
first_naming x p (Node h a b) = if defines (only x) h then Some p else first_reading x (first_place p h) a

-- branches, and a construct, with something before each body

abbrev pub in_branches : (before : Tree → Tree) → (branches : Tree) → Tree
in_branches before (Node Cons (Node Branch us (Node Cons cells (Node Cons c body))) more) =
    Node Cons (Node Branch us (Node Cons cells (Node Cons c (before body)))) (in_branches before more)
in_branches before branches = branches

abbrev pub in_bodies : (before : Tree → Tree) → Tree → Tree
in_bodies before Empty = Empty
in_bodies before (Node If c (Node Cons then_body (Node Cons else_body rest))) =
    Node If c (Node Cons (before then_body) (Node Cons (before else_body) rest))
in_bodies before (Node (Find l) branches otherwise) = Node (Find l) (in_branches before branches) (before otherwise)
in_bodies before (Node h a body) = Node h a (before body)

-- a definition below the construct behind it
abbrev pub moved : Tree → Tree
moved Empty = Empty
moved (Node h a construct) = in_bodies (Node h a) construct
