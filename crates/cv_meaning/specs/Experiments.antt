-- Experiments: the run of a game on a tape, and what is counted at its end. Blanchet, CSF 2007, for
-- correspondences; Blanchet, TDSC 2008, for secrecy, in the forms of one session and of many.
use Rattle.std.specs.Prelude.{ℕ, suc, Bool, false, ◌==◌, List, [], ◌∷◌, Option, Some, None}
use Rattle.cv_syntax_trees.specs.Tree.{Tree}
use Rattle.cv_meaning.specs.Tapes.{Tape, Coin}
use Rattle.cv_meaning.specs.Interpretation.{Setting}
use Rattle.cv_meaning.specs.Serving.{Visit}
use Rattle.cv_meaning.specs.Runs.{Mode, Events, Adversary, State, run_from, run_visits, start}
use Rattle.cv_meaning.specs.Correspondences.{correspondence_of, broken}

-- the values of the adversary's coins on a tape
abbrev pub coins_on : Tape → ℕ → List ℕ → List ℕ
coins_on t k [] = []
coins_on t k (n ∷ ns) = t (Coin k) ∷ coins_on t (suc k) ns

-- the run on a tape
unfoldable pub run : Setting → Mode → Adversary → Tree → Tape → State
run g m a game t = run_from g m (a.next (coins_on t 0 a.coins)) t a.moves (start g game)

unfoldable pub visits_of_run : Setting → Mode → Adversary → Tree → Tape → List Visit
visits_of_run g m a game t = run_visits g m (a.next (coins_on t 0 a.coins)) t a.moves (start g game)

-- what is counted: the runs that break the correspondence of a query, or those in a mode of secrecy that
-- end with the guess 1
pub data Experiment : Type 0 where
  Breaks : (query : Tree) → Experiment
  Guesses : Mode → Experiment

-- what its runs are played for
abbrev pub mode_of : Experiment → Mode
mode_of (Breaks q) = Events
mode_of (Guesses m) = m

abbrev pub guesses_one : Option ℕ → Bool
guesses_one None = false
guesses_one (Some b) = b == 1

-- whether it holds in the last state of a run
abbrev pub holds_in : Setting → Experiment → State → Bool
holds_in g (Breaks q) st = broken g (correspondence_of q) st.memory.events
holds_in g (Guesses m) st = guesses_one st.guess

-- whether it holds on a tape
unfoldable pub holds_on : Setting → Experiment → Adversary → Tree → Tape → Bool
holds_on g x a game t = holds_in g x (run g (mode_of x) a game t)
