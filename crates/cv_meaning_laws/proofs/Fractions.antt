-- No chance is above one.
use Rattle.std.proofs.Common.{ℕ, ◌+◌, ◌-◌, ◌*◌, ◌≤◌, Bool, true, false, List, refl, arith, le_trans, le_of_eq, mul_comm, mul-le-mul_right}
use Rattle.cv_syntax_trees.specs.declared.head.Head.TheVariants.{Secret, SecretOnce}
use Rattle.cv_syntax_trees.specs.Tree.{Tree, Node}
use Rattle.cv_meaning.specs.Tapes.{Cell, Tape, count, total, blank}
use Rattle.cv_meaning.specs.Interpretation.{Setting}
use Rattle.cv_meaning.specs.Runs.{Real, Random, Adversary}
use Rattle.cv_meaning.specs.Cells.{cells}
use Rattle.cv_meaning.specs.Experiments.{Experiment, Breaks, Guesses, mode_of, holds_on}
use Rattle.cv_meaning.specs.Chances.{Chance, distance, IsFraction}
use Rattle.cv_meaning.specs.Advantage.{chance_of, secrecy, advantage}
use Rattle.cv_meaning_laws.proofs.Counts.{count_le, count_true}

count_at_most_total : (cs : List (Cell × ℕ)) (p : Tape → Bool) → count cs p blank ≤ total cs
count_at_most_total cs p = le_trans (count_le cs p (λ t. true) blank (λ t e. refl)) (le_of_eq (count_true cs blank))

pub chance_fraction : (g : Setting) (x : Experiment) (a : Adversary) (game : Tree) → IsFraction (chance_of g x a game)
unfolding chance_of
chance_fraction g x a game = count_at_most_total (cells g (mode_of x) a game) (holds_on g x a game)

apart_at_most : (a b c : ℕ) → a ≤ c → b ≤ c → (a - b) + (b - a) ≤ c
apart_at_most a b c h k = omega arith

distance_fraction : (p q : Chance) → IsFraction p → IsFraction q → IsFraction (distance p q)
distance_fraction p q h k =
    apart_at_most (p.good * q.all) (q.good * p.all) (p.all * q.all)
    (mul-le-mul_right q.all h)
    (le_trans (mul-le-mul_right p.all k) (le_of_eq (mul_comm q.all p.all)))

secrecy_fraction : (g : Setting) (one : Bool) (x : ℕ) (a : Adversary) (game : Tree) → IsFraction (secrecy g one x a game)
secrecy_fraction g one x a game =
    distance_fraction (chance_of g (Guesses (Real one x)) a game) (chance_of g (Guesses (Random one x)) a game)
    (chance_fraction g (Guesses (Real one x)) a game) (chance_fraction g (Guesses (Random one x)) a game)

pub advantage_fraction : (g : Setting) (query : Tree) (a : Adversary) (game : Tree) → IsFraction (advantage g query a game)
advantage_fraction g (Node (Secret x) b c) a game = secrecy_fraction g false x a game
advantage_fraction g (Node (SecretOnce x) b c) a game = secrecy_fraction g true x a game
advantage_fraction g query a game = chance_fraction g (Breaks query) a game
