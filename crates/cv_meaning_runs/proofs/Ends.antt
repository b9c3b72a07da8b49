-- Experiments at the ends of runs that are alike, and their chances.
use Rattle.std.proofs.Common.{◌≡◌, ℕ, Bool, List, ap, ◌∙◌}
use Rattle.cv_syntax_trees.specs.Tree.{Tree}
use Rattle.cv_meaning.specs.Tapes.{Cell, Tape, blank, total}
use Rattle.cv_meaning.specs.Side.{Side}
use Rattle.cv_meaning.specs.Interpretation.{Setting}
use Rattle.cv_meaning.specs.Memory.{Memory}
use Rattle.cv_meaning.specs.Inputs.{Input}
use Rattle.cv_meaning.specs.Runs.{Mode, Adversary}
use Rattle.cv_meaning.specs.Cells.{cells}
use Rattle.cv_meaning.specs.Correspondences.{correspondence_of, broken}
use Rattle.cv_meaning.specs.Experiments.{Experiment, Breaks, Guesses, mode_of, guesses_one, holds_on, run}
use Rattle.cv_meaning.specs.Chances.{chance}
use Rattle.cv_meaning.specs.Advantage.{chance_of}
use Rattle.cv_meaning_laws.proofs.Counts.{count_same}
use Rattle.cv_meaning_laws.proofs.Sides.{broken_same}
use Rattle.cv_meaning_runs.specs.Simulation.{AreAlike, HaveSameEvents, HoldAlike}

pub guesses_alike : (K : Memory → Memory → Type 0) (L : Input → Input → Type 0) (g h : Setting) (m n : Mode) → HoldAlike K L g h (Guesses m) (Guesses n)
guesses_alike K L g h m n r s w = ap guesses_one w.guess

-- where alike runs have the same events, an experiment holds in both or in none, whatever answers calls
pub experiments_alike : (K : Memory → Memory → Type 0) (L : Input → Input → Type 0) → HaveSameEvents K → (g : Setting) (s : Side) (x : Experiment) → HoldAlike K L (record g { side = s }) g x x
experiments_alike K L e g s (Guesses m) r st w = guesses_alike K L (record g { side = s }) g m m r st w
experiments_alike K L e g s (Breaks q) r st w =
    broken_same g s (correspondence_of q) r.memory.events ∙ ap (broken g (correspondence_of q)) (e r.memory st.memory w.memory)

pub holds_alike : (K : Memory → Memory → Type 0) (L : Input → Input → Type 0) (g h : Setting) (x y : Experiment) (a : Adversary) (p q : Tree) (t u : Tape) → HoldAlike K L g h x y → AreAlike K L (run g (mode_of x) a p t) (run h (mode_of y) a q u) → holds_on g x a p t ≡ holds_on h y a q u
unfolding holds_on
holds_alike K L g h x y a p q t u e w = e (run g (mode_of x) a p t) (run h (mode_of y) a q u) w

chance_alike : (cs ds : List (Cell × ℕ)) (p q : Tape → Bool) → cs ≡ ds → ((t : Tape) → p t ≡ q t) → chance cs p ≡ chance ds q
chance_alike cs ds p q e f = (λ i. record { good = count_same cs p q blank f i; all = total cs }) ∙ ap (λ xs. chance xs q) e

pub chances_alike : (g h : Setting) (x y : Experiment) (a : Adversary) (p q : Tree) → ((t : Tape) → holds_on g x a p t ≡ holds_on h y a q t) → cells g (mode_of x) a p ≡ cells h (mode_of y) a q → chance_of g x a p ≡ chance_of h y a q
unfolding chance_of
chances_alike g h x y a p q f e = chance_alike _ _ (holds_on g x a p) (holds_on h y a q) e f
