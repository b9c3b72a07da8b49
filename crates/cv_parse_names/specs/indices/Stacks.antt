-- The contexts of trees that are still to come, the next one first.
use Rattle.std.specs.Prelude.{ℕ, ◌≤◌, List, [], ◌∷◌, ◌≡◌, length, map, take, reverse}
use Rattle.cv_syntax_trees.specs.declared.head.Head.{Head}
use Rattle.cv_syntax.specs.declared.make.Make.{Make}
use Rattle.cv_syntax.specs.declared.make.Make.TheVariants.{Nothing, Over}
use Rattle.cv_parse_names.specs.declared.indices.context.Context.{Context}
use Rattle.cv_parse_names.specs.declared.indices.context.Place.{Place}
use Rattle.cv_parse_names.specs.declared.indices.context.Place.TheVariants.{Plain}
use Rattle.cv_parse_names.specs.indices.Contexts.{first_place, second_place}
use Rattle.cv_parse_names.specs.indices.Current.{level_below}

abbrev pub first_context : Context → Head → Context
first_context c h = record { level = c.level; place = first_place c.place h }

abbrev pub second_context : Context → Head → Context
second_context c h = record { level = level_below c.level h; place = second_place c.place h }

-- what comes next at a part
abbrev pub children : Context → Make → List Context
children c Nothing = []
children c (Over h) = first_context c h ∷ second_context c h ∷ []

-- the current indices of a tree, and where it stands
abbrev pub Standing : Type 0
Standing = List ℕ × Place

abbrev pub standing : List ℕ → Context → Standing
standing names c = (take c.level names, c.place)

-- a stack has its newest context at the end
abbrev pub standings : List ℕ → List Context → List Standing
standings names stack = map (standing names) (reverse stack)

-- no context stands below more replications than one on top of it
abbrev pub Descends : ℕ → List Context → Type 0
Descends level [] = Unit {0}
Descends level (c ∷ cs) = (c.level ≤ level) × Descends c.level cs

-- the next tree, and those after it; the whole process stands nowhere below
abbrev pub top : List Standing → Standing
top [] = ([], Plain)
top (s ∷ ss) = s

abbrev pub rest : List Standing → List Standing
rest [] = []
rest (s ∷ ss) = ss

-- the context of the next tree was taken from a stack
pub record Popped (names : List ℕ) (old new : List Context) (c : Context) : Type 0 where
  pub first : top (standings names old) ≡ standing names c
  pub others : rest (standings names old) ≡ standings names new
  pub low : c.level ≤ length names
  pub below : Descends c.level (reverse new)

-- how many syntax nodes stand above the next tree, and above those after it
abbrev pub first_above : List ℕ → ℕ
first_above [] = 0
first_above (u ∷ us) = u

abbrev pub rest_above : List ℕ → List ℕ
rest_above [] = []
rest_above (u ∷ us) = us

abbrev pub both : ℕ → Make → List ℕ
both u Nothing = []
both u (Over h) = u ∷ u ∷ []
