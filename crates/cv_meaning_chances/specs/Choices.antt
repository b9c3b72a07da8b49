-- Games in which each random choice has a value. This profile's own.
use Rattle.std.specs.Prelude.{ℕ, ◌<◌, List}
use Rattle.cv_syntax_trees.specs.declared.head.Head.{Head}
use Rattle.cv_syntax_trees.specs.declared.head.Head.TheVariants.{New, Let, Binder, Find, Key, Call}
use Rattle.cv_syntax_trees.specs.Tree.{Tree, Empty, Node}
use Rattle.cv_meaning.specs.Interpretation.{Setting}
use Rattle.cv_meaning_chances.specs.Tests.{HasValues}

-- there is a value for what a construct chooses, or for what a test of its variable tells
abbrev pub HeadHasValues : Setting → Head → Type 0
HeadHasValues g (New x T) = 0 < g.interpretation.type_size T
HeadHasValues g (Let x T) = 0 < g.interpretation.type_size T
HeadHasValues g (Binder x T) = 0 < g.interpretation.type_size T
HeadHasValues g (Find l) = 0 < g.interpretation.choices
HeadHasValues g (Key x) = 0 < g.side.key_size
HeadHasValues g (Call x l) = (u : List ℕ) → HasValues (g.side.cells (record { tuple = u; site = l }))
HeadHasValues g h = Unit {0}

abbrev pub ChoicesHaveValues : Setting → Tree → Type 0
ChoicesHaveValues g Empty = Unit {0}
ChoicesHaveValues g (Node h a b) = HeadHasValues g h × ChoicesHaveValues g a × ChoicesHaveValues g b
