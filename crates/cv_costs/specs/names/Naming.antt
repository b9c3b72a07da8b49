-- Where a game names some of its variables, and whether a query of the file asks for the secrecy of one. This profile's own.
use Rattle.std.specs.Prelude.{ℕ, Bool, false, ◌&&◌, ◌||◌, not, nat_lt, if◌then◌else◌, Option, Some, None}
use Rattle.std.specs.List.{list_any}
use Rattle.cv_syntax_trees.specs.declared.head.Head.{Head}
use Rattle.cv_syntax_trees.specs.declared.head.Head.TheVariants.{Binder, Branch, Call, In, Key, Leaf, Let, New, Read, Secret, SecretOnce}
use Rattle.cv_syntax_trees.specs.Tree.{Tree, Empty, Node, first_place, second, second_place}
use Rattle.cv_syntax_trees.specs.sites.Sites.{first_of}
use Rattle.cv_meaning.specs.Queries.{queries_in}
use Rattle.cv_scene.specs.Scenes.{Scene}

-- one of these is bound
abbrev pub binds_one : (ℕ → Bool) → (binders : Tree) → Bool
binds_one xs (Node (Binder x T) a b) = xs x || binds_one xs b
binds_one xs binders = false

-- a node reads one of these variables or is a site of one: an input and a branch are sites of what they bind
abbrev pub names_one : (ℕ → Bool) → Head → (first : Tree) → Bool
names_one xs (Leaf x) a = xs x
names_one xs (Read x) a = xs x
names_one xs (New x T) a = xs x
names_one xs (Let x T) a = xs x
names_one xs (Key x) a = xs x
names_one xs (Call x l) a = xs x
names_one xs (In c) a = binds_one xs (second a)
names_one xs Branch a = binds_one xs a
names_one xs h a = false

-- the first place of a tree that stands at a place where one of these is named, but for places that are passed over
unfoldable pub first_naming : (xs skip : ℕ → Bool) → (place : ℕ) → Tree → Option ℕ
first_naming xs skip p Empty = None
first_naming xs skip p (Node h a b) =
    if names_one xs h a && not (skip p) then Some p
    else first_of (first_naming xs skip (first_place p h) a) (first_naming xs skip (second_place p h a) b)

-- places from one on and before another
abbrev pub is_between : (from to : ℕ) → ℕ → Bool
is_between from to p = not (nat_lt p from) && nat_lt p to

-- a query of the file asks for the secrecy of one of these variables

abbrev pub asks_for_one : (ℕ → Bool) → Tree → Bool
asks_for_one xs (Node (Secret y) a b) = xs y
asks_for_one xs (Node (SecretOnce y) a b) = xs y
asks_for_one xs q = false

abbrev pub is_one_queried : Scene → (ℕ → Bool) → Bool
is_one_queried s xs = list_any (asks_for_one xs) (queries_in s.declarations)
