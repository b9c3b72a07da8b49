-- The advantage of a context: how far apart the two sides of its equivalence let an experiment come out.
-- Blanchet and Pointcheval, CRYPTO 2006. Chances as pairs of counts are this profile's own.
use Rattle.std.specs.Prelude.{List}
use Rattle.cv_syntax_trees.specs.Declarations.{Declaration}
use Rattle.cv_meaning.specs.Interpretation.{Interpretation, setting_with}
use Rattle.cv_meaning.specs.Runs.{Adversary}
use Rattle.cv_meaning.specs.Experiments.{Experiment}
use Rattle.cv_meaning.specs.Chances.{Chance, distance}
use Rattle.cv_meaning.specs.Advantage.{chance_of}
use Rattle.cv_meaning.specs.contexts.Groups.{Which, Left, Right}
use Rattle.cv_meaning.specs.contexts.Sides.{Context, side_of}

abbrev pub context_chance : List Declaration → Interpretation → Context → Which → Experiment → Adversary → Chance
context_chance declarations i c which x a = chance_of (setting_with declarations i (side_of declarations i c which)) x a c.game

abbrev pub context_advantage : List Declaration → Interpretation → Context → Experiment → Adversary → Chance
context_advantage declarations i c x a = distance (context_chance declarations i c Left x a) (context_chance declarations i c Right x a)
