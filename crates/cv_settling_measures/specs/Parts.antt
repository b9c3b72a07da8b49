-- The measure of a part of a game, by the sorts of the game. This profile's own.
use Rattle.cv_syntax_trees.specs.Tree.{Tree, size}
use Rattle.cv_scene.specs.Scenes.{Scene}
use Rattle.cv_settling_rules.specs.Measure.{Measure, large_equalities}

abbrev pub measure_in : Scene → (part : Tree) → Measure
measure_in s t = record { equalities = large_equalities s t; nodes = size t }
