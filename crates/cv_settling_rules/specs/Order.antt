-- All candidates of a game, in the order in which they are looked at: bodies that are not reached, tests whose bodies are equal, variables
-- that nothing names, `let`s, equations that make a term smaller, equalities that hold by chance alone. This profile's own.
use Rattle.std.specs.Prelude.{List, ◌++◌}
use Rattle.cv_scene.specs.Scenes.{Scene}
use Rattle.cv_settling_rules.specs.Assignments.{unlettings, unnewings}
use Rattle.cv_settling_rules.specs.Bodies.{mergers, prunings}
use Rattle.cv_settling_rules.specs.Candidates.{Candidate}
use Rattle.cv_settling_rules.specs.Comparisons.{birthdays, freshes, guesses}
use Rattle.cv_settling_rules.specs.Equations.{rewritings}

abbrev pub candidates : Scene → List Candidate
candidates s =
    prunings s.game
    ++ (mergers s.game
    ++ (unnewings s.game
    ++ (unlettings s.game
    ++ (rewritings s
    ++ (birthdays s.game
    ++ (guesses s.game
    ++ freshes s.game))))))
