-- What stands in the game for a tree of the text, by where it stands.
use Rattle.std.specs.Prelude.{ℕ, List, [], ◌∷◌, Option}
use Rattle.cv_syntax_trees.specs.declared.head.Head.{Head}
use Rattle.cv_syntax_trees.specs.declared.head.Head.TheVariants.{In, Out, Leaf, Cons}
use Rattle.cv_syntax.specs.declared.make.Make.{Make}
use Rattle.cv_syntax.specs.declared.make.Make.TheVariants.{Nothing, Over}
use Rattle.cv_syntax_trees.specs.Head.{weight}
use Rattle.cv_syntax_trees.specs.Tree.{Tree, Empty, Node, names, size, depth}
use Rattle.cv_parse_grammar.specs.Filled.{bare, filled_at}
use Rattle.cv_parse_names.specs.declared.indices.context.Place.{Place}
use Rattle.cv_parse_names.specs.declared.indices.context.Place.TheVariants.{Plain, Channel, Indices, Dropped}
use Rattle.cv_parse_names.specs.indices.Backward.{backward}

-- where the children of a node stand
abbrev pub first_place : Place → Head → Place
first_place Dropped h = Dropped
first_place Channel Cons = Indices
first_place p (Leaf x) = Dropped
first_place p (In c) = Channel
first_place p (Out c) = Channel
first_place p h = Plain

abbrev pub second_place : Place → Head → Place
second_place Dropped h = Dropped
second_place p (Leaf x) = Dropped
second_place p h = Plain

-- the current indices, where no names are written
abbrev pub named : List ℕ → Tree → Tree
named now Empty = names now
named now t = t

-- a list that begins with the indices of a channel
abbrev pub on_channel : List ℕ → Tree → Tree
on_channel now (Node Cons a b) = Node Cons (named now a) b
on_channel now t = t

abbrev pub seen : List ℕ → Place → Tree → Tree
seen now Plain t = t
seen now Channel t = on_channel now t
seen now Indices t = named now t
seen now Dropped t = Empty

-- what stands for a tree at a place
abbrev pub filled_in : (ℕ → Option ℕ) → List ℕ → Place → Tree → Tree
filled_in sites now p t = seen now p (filled_at sites now t)

-- its parts, from the last to the first
abbrev pub parts_in : (ℕ → Option ℕ) → List ℕ → Place → Tree → List Make
parts_in sites now Dropped t = []
parts_in sites now p t = backward (filled_in sites now p t)

-- what is written for one part
abbrev pub written_head : (ℕ → Option ℕ) → List ℕ → Head → List Make
written_head sites now (Leaf x) = backward (bare sites now x)
written_head sites now h = Over h ∷ []

abbrev pub written : (ℕ → Option ℕ) → List ℕ → Place → Make → List Make
written sites now Dropped m = []
written sites now Indices Nothing = backward (names now)
written sites now p Nothing = Nothing ∷ []
written sites now p (Over h) = written_head sites now h

-- how many syntax nodes are written for one part, and how many of them lie on one path
abbrev pub nodes_at : (ℕ → Option ℕ) → List ℕ → Place → Make → ℕ
nodes_at sites now Dropped m = 0
nodes_at sites now p Nothing = 0
nodes_at sites now p (Over (Leaf x)) = size (bare sites now x)
nodes_at sites now p (Over h) = weight h

abbrev pub depth_at : (ℕ → Option ℕ) → List ℕ → Place → Make → ℕ
depth_at sites now Dropped m = 0
depth_at sites now p Nothing = 0
depth_at sites now p (Over (Leaf x)) = depth (bare sites now x)
depth_at sites now p (Over h) = weight h
