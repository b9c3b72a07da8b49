-- By how much a step may change the chance of an experiment. Blanchet, TDSC 2008, section 3, for games whose chances differ by little.
use Rattle.std.specs.Prelude.{List, map}
use Rattle.cv_syntax_trees.specs.Declarations.{Declaration}
use Rattle.cv_syntax_trees.specs.Tree.{Tree}
use Rattle.cv_meaning.specs.Advantage.{IsAsked, chance_of}
use Rattle.cv_meaning.specs.Chances.{AtMost, Chance, distance, zero_chance}
use Rattle.cv_meaning.specs.Experiments.{Experiment}
use Rattle.cv_meaning.specs.Interpretation.{Interpretation, setting_of}
use Rattle.cv_meaning.specs.Queries.{queries_in}
use Rattle.cv_meaning.specs.Runs.{Adversary}
use Rattle.cv_meaning.specs.Satisfies.{Satisfies}
use Rattle.cv_meaning_chances.specs.Fractions.{sum_of}
use Rattle.cv_steps.specs.values.Values.{collision_value}
use Rattle.cv_steps.specs.Steps.{Collisions, Cost, Zero}

-- what a cost is worth: the chances of its collisions together
abbrev pub bound_of : Interpretation → Cost → Chance
bound_of i Zero = zero_chance
bound_of i (Collisions cs) = sum_of (map (collision_value i) cs)

-- The chances of each experiment for which a query of the file asks differ in both games by at most the cost, for each interpretation
-- that satisfies the declarations and each adversary.
abbrev pub CostsAtMost : List Declaration → (game next : Tree) → Cost → Type 0
CostsAtMost ds game next c =
    (i : Interpretation) → Satisfies ds i → (x : Experiment) → IsAsked (queries_in ds) x → (a : Adversary) →
    AtMost (distance (chance_of (setting_of ds i) x a game) (chance_of (setting_of ds i) x a next)) (bound_of i c)
