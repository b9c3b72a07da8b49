-- When a step keeps chances. Steps between games of equal chances are those of Blanchet, TDSC 2008, section 3.
use Rattle.std.specs.Prelude.{List}
use Rattle.cv_syntax_trees.specs.Declarations.{Declaration}
use Rattle.cv_syntax_trees.specs.Tree.{Tree}
use Rattle.cv_meaning.specs.Interpretation.{Interpretation, setting_of}
use Rattle.cv_meaning.specs.Satisfies.{Satisfies}
use Rattle.cv_meaning.specs.Runs.{Adversary}
use Rattle.cv_meaning.specs.Experiments.{Experiment}
use Rattle.cv_meaning.specs.Chances.{Same}
use Rattle.cv_meaning.specs.Advantage.{IsAsked, chance_of}
use Rattle.cv_meaning.specs.Queries.{queries_in}

-- Each experiment for which a query of the file asks has one chance in both games, for each interpretation that satisfies
-- the declarations and each adversary.
abbrev pub KeepsChances : List Declaration → Tree → Tree → Type 0
KeepsChances ds game next =
    (i : Interpretation) → Satisfies ds i → (x : Experiment) → IsAsked (queries_in ds) x → (a : Adversary) →
    Same (chance_of (setting_of ds i) x a game) (chance_of (setting_of ds i) x a next)
